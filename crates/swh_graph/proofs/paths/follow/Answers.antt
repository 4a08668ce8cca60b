use Rattle.std.proofs.Common.{◌+◌, arith, sym, subst}
use Rattle.swh_base.specs.declared.name.Name.{Name}
use Rattle.swh_dirfmt.specs.Entries.{entry_of}
use Rattle.swh_graph.proofs.Lists.{refused}
use Rattle.swh_graph.proofs.Ways.{IsOnWay, way_goes_on, way_arrives, fails_within, fails_at_end}
use Rattle.swh_graph.proofs.paths.follow.Goals as goal

pub returns-in_err-entry-clause-err : goal.returns-in_err-entry-clause-err
returns-in_err-entry-clause-err g c =
    refused c.from_residual.result _ _ c.from_residual.ensures.1
    (fails_within (g.L.Look.archive c.args.look.now).bodies c.args.root c.args.path.now c.components.place c.components.number c.components.rest.now c.components.invariant c.in-Some.component.now c.in-Some.behind.now c.in-Some.ensures.some.0 c.in-Some.ensures.some.1 c.in_err-entry.field-0.0 c.in_err-entry.ensures.err)

pub components-preserved : goal.components-preserved
components-preserved g c =
    let bodies = (g.L.Look.archive c.args.look.now).bodies in
    subst (λ (place : Name). IsOnWay bodies c.args.root c.args.path.now place (c.components.number + 1) c.in-Some.behind.now) (sym c.target_of-place.ensures)
    (way_goes_on bodies c.args.root c.args.path.now c.components.place c.components.number c.components.rest.now c.components.invariant c.in-Some.component.now c.in-Some.behind.now (entry_of c.in_ok-entry.entry) c.in-Some.ensures.some.0 c.in-Some.ensures.some.1 c.in_ok-entry.ensures.ok)

pub returns-in_err-entry-2-clause-err : goal.returns-in_err-entry-2-clause-err
returns-in_err-entry-2-clause-err g c =
    refused c.from_residual-in_err-entry-2.result _ _ c.from_residual-in_err-entry-2.ensures.1
    (fails_at_end (g.L.Look.archive c.args.look.now).bodies c.args.root c.args.path.now c.components.place c.components.number c.components.rest.now c.components.invariant c.in_default.ensures.none c.in_err-entry-2.field-0.0 c.in_err-entry-2.ensures.err)

pub returns-clause-ok : goal.returns-clause-ok
returns-clause-ok g c =
    way_arrives (g.L.Look.archive c.args.look.now).bodies c.args.root c.args.path.now c.components.place c.components.number c.components.rest.now c.components.invariant (entry_of c.in_ok-entry-2.entry) c.in_default.ensures.none c.in_ok-entry-2.ensures.ok (omega arith)
