use Rattle.std.proofs.Common.{[], take, get_or, sym, subst}
use Rattle.std.proofs.lemmas.List.{take_more, take_all}
use Rattle.swh_base.specs.declared.kind.Kind.TheVariants.{Content}
use Rattle.swh_base.specs.declared.name.Name.{Name}
use Rattle.swh_postorder.specs.Cycle.{ArePreceded}
use Rattle.swh_postorder.proofs.Preceded.{preceded_more}
use Rattle.swh_postorder.proofs.cycles.are_seen_preceded.Goals as goal

abbrev none : Name
none = record { kind = Content; id = [] }

pub loop-place-preserved : goal.loop-place-preserved
loop-place-preserved g c =
    let children_of = g.G.Graph.children_of c.args.graph.now in
    let order = c.args.order.now in
    let place = c.loop-place.place in
    subst (ArePreceded children_of) (sym (take_more order place none c.loop-place-test.true))
    (preceded_more children_of (take place order) (get_or order place none) c.loop-place.invariant (c.has_seen_kids.ensures c.if-not-has_seen_kids.false))

pub returns : goal.returns
returns g c = λ _. subst (ArePreceded (g.G.Graph.children_of c.args.graph.now)) (take_all c.loop-place.place c.args.order.now c.loop-place-test.false) c.loop-place.invariant
