use Rattle.std.proofs.Common.{List, arith, sym, subst}
use Rattle.std.specs.Prelude.{Contains, ◌↔◌}
use Rattle.std.specs.List.{IsDistinct}
use Rattle.std.specs.Ordering.{eq_by_cmp}
use Rattle.swh_base.specs.declared.name.Name.{Name}
use Rattle.swh_base.specs.Name.{name_cmp}
use Rattle.swh_base.specs.Reach.{ReachesIn}
use Rattle.swh_graph.specs.Met.{MeetsOne}
use Rattle.swh_graph.proofs.Walks.{walk_starts, walk_more, walk_ends, walk_once}
use Rattle.swh_graph.proofs.reaching.reached.Goals as goal

pub loop-place-init : goal.loop-place-init
loop-place-init g c =
    walk_starts (g.L.Graph.children_of c.args.look.now) c.args.root c.meet.new.self (subst (λ (old : List Name). MeetsOne old c.args.root c.meet.new.self) c.new-met.ensures c.in_ok-meet.ensures)

pub loop-place-preserved : goal.loop-place-preserved
loop-place-preserved g c =
    walk_more (g.L.Graph.children_of c.args.look.now) c.args.root c.loop-place.place c.loop-place.met c.loop-place.invariant c.in-Some.name c.in-Some.ensures.some.0 c.in-Some.ensures.some.1
    c.meet_children.new.met c.in_ok-meet_children.ensures

pub returns-in_default-clause-are : goal.returns-in_default-clause-are
returns-in_default-clause-are g c =
    subst (λ (names : List Name). (n : Name) → Contains names n ↔ ReachesIn (g.L.Graph.children_of c.args.look.now) c.args.root n) (sym c.into_front.ensures)
    (walk_ends (g.L.Graph.children_of c.args.look.now) c.args.root c.loop-place.place c.loop-place.met c.loop-place.invariant c.in_default.ensures.none)

pub returns-in_default-clause-once : goal.returns-in_default-clause-once
returns-in_default-clause-once g c =
    subst (IsDistinct (eq_by_cmp name_cmp)) (sym c.into_front.ensures)
    (walk_once (g.L.Graph.children_of c.args.look.now) c.args.root c.loop-place.place c.loop-place.met c.loop-place.invariant c.in_default.ensures.none)

pub unreachable-requires : goal.unreachable-requires
unreachable-requires g c =
    let within = c.loop-place.invariant.within in
    let small = c.len-count.ensures.small in
    let value = c.len-count.ensures.value in
    omega (arith, within, small, value)
