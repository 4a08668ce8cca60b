use Rattle.std.proofs.Common.{◌≡◌, true, false, refl}
use Rattle.swh_graph.proofs.Lists.{refused}
use Rattle.swh_graph.proofs.Resolutions.{way_without_root, way_misses_root, way_misses_end, way_leads, way_ends_elsewhere}
use Rattle.swh_graph.proofs.resolving.arrive.Goals as goal

pub returns-in_err-found-clause-err : goal.returns-in_err-found-clause-err
returns-in_err-found-clause-err g c =
    refused c.from_residual.result _ _ c.from_residual.ensures.1
    (way_misses_root (g.L.Look.archive c.args.look.now).bodies c.args.anchor c.args.path.now c.args.core c.in_err-found.field-0.0 c.in_err-found.ensures.err)

pub returns-in_default-clause-err : goal.returns-in_default-clause-err
returns-in_default-clause-err g c =
    way_without_root (g.L.Look.archive c.args.look.now).bodies c.args.anchor c.args.path.now c.args.core (rw c.in_default.is at c.in_ok-found.ensures.ok)

pub returns-in_err-end-clause-err : goal.returns-in_err-end-clause-err
returns-in_err-end-clause-err g c =
    refused c.from_residual-in_err-end.result _ _ c.from_residual-in_err-end.ensures.1
    (way_misses_end (g.L.Look.archive c.args.look.now).bodies c.args.anchor c.args.path.now c.args.core c.in-Some.root (rw c.in-Some.is at c.in_ok-found.ensures.ok) c.in_err-end.field-0.0 c.in_err-end.ensures.err)

pub returns-else-is_same-clause-err : goal.returns-else-is_same-clause-err
returns-else-is_same-clause-err g c =
    way_ends_elsewhere (g.L.Look.archive c.args.look.now).bodies c.args.anchor c.args.path.now c.args.core c.in-Some.root (rw c.in-Some.is at c.in_ok-found.ensures.ok) c.in_ok-end.end.name c.in_ok-end.end.number c.in_ok-end.ensures.ok
    (λ same. let e : false ≡ true = c.if-is_same.ensures.1 same in cc)

pub returns-then-is_same-clause-ok : goal.returns-then-is_same-clause-ok
returns-then-is_same-clause-ok g c =
    way_leads (g.L.Look.archive c.args.look.now).bodies c.args.anchor c.args.path.now c.args.core c.in-Some.root (rw c.in-Some.is at c.in_ok-found.ensures.ok) c.in_ok-end.end.name c.in_ok-end.end.number c.in_ok-end.ensures.ok
    (c.if-is_same.ensures.0 refl)
