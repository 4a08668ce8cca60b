use Rattle.std.proofs.Common.{List, subst}
use Rattle.std.specs.Prelude.{Contains}
use Rattle.swh_base.specs.declared.name.Name.{Name}
use Rattle.swh_model.specs.Archive.{IsHeld}
use Rattle.swh_graph.specs.Resolve.{IsFirstMissing}
use Rattle.swh_graph.proofs.Walks.{reach_whole, reach_gap}
use Rattle.swh_graph.proofs.reaching.reach.Goals as goal

pub returns-in-None-clause-ok : goal.returns-in-None-clause-ok
returns-in-None-clause-ok g c =
    let bodies = (g.L.Look.archive c.args.look.now).bodies in
    reach_whole bodies (g.L.Graph.children_of c.args.look.now) c.is_graph.ensures c.args.name c.sorted-names.result.items c.sorted-names.ensures.ascending
    (λ n. (λ h. (c.in_ok-reached.ensures.are n).0 ((c.sorted-names.ensures.same n).0 h), λ r. (c.sorted-names.ensures.same n).1 ((c.in_ok-reached.ensures.are n).1 r)))
    (subst (λ (ns : List Name). (n : Name) → Contains ns n → IsHeld bodies n) c.as_slice.ensures.value c.in-None.ensures.none)

pub returns-in-Some-clause-err : goal.returns-in-Some-clause-err
returns-in-Some-clause-err g c =
    let bodies = (g.L.Look.archive c.args.look.now).bodies in
    reach_gap bodies (g.L.Graph.children_of c.args.look.now) c.is_graph.ensures c.args.name c.sorted-names.result.items c.sorted-names.ensures.ascending
    (λ n. (λ h. (c.in_ok-reached.ensures.are n).0 ((c.sorted-names.ensures.same n).0 h), λ r. (c.sorted-names.ensures.same n).1 ((c.in_ok-reached.ensures.are n).1 r)))
    c.in-Some.name (subst (λ (ns : List Name). IsFirstMissing bodies ns c.in-Some.name) c.as_slice.ensures.value c.in-Some.ensures.some)
