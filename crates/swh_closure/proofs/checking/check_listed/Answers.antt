use Rattle.std.proofs.Common.{[], get_or, refl}
use Rattle.swh_base.specs.declared.kind.Kind.TheVariants.{Content}
use Rattle.swh_base.specs.declared.name.Name.{Name}
use Rattle.swh_base.specs.Reach.{IsCovered}
use Rattle.swh_closure.proofs.Order.{item_is}
use Rattle.swh_closure.proofs.Walks.{each_more, each_of_all, of_child}
use Rattle.swh_closure.proofs.checking.check_listed.Goals as goal

pub loop-kid-preserved : goal.loop-kid-preserved
loop-kid-preserved g c =
    let none : Name = record { kind = Content; id = [] } in
    let kid = get_or c.in-Some.kids.now c.loop-kid.kid-index none in
    each_more (IsCovered c.args.closed.now c.args.names.now) c.in-Some.kids.now c.loop-kid.kid-index kid c.loop-kid-test.true
    (item_is c.in-Some.kids.now c.loop-kid.kid-index none kid c.loop-kid-test.true) c.loop-kid.invariant (c.if-not-is_covered.ensures.0 refl)

pub returns-clause-kids : goal.returns-clause-kids
returns-clause-kids g c child by =
    each_of_all (IsCovered c.args.closed.now c.args.names.now) c.in-Some.kids.now c.loop-kid.kid-index c.loop-kid-test.false c.loop-kid.invariant child
    (of_child (g.G.Graph.children_of c.args.graph.now) c.args.closed.now c.args.name.now child c.in-Some.kids.now c.in-Some.ensures.held by)
