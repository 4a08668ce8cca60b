use Rattle.std.proofs.Common.{List, [], take, get_or, sym, subst}
use Rattle.std.proofs.lemmas.List.{take_more, take_all}
use Rattle.swh_base.specs.declared.kind.Kind.TheVariants.{Content}
use Rattle.swh_base.specs.declared.name.Name.{Name}
use Rattle.swh_closure.specs.Walk.{Meets}
use Rattle.swh_closure.proofs.Walks.{meets_none, meets_next}
use Rattle.swh_closure.proofs.walking.meet_all.Goals as goal

pub loop-name-init : goal.loop-name-init
loop-name-init g c = meets_none (g.G.Graph.children_of c.args.graph.now) c.args.closed.now c.args.met.now

pub loop-name-preserved : goal.loop-name-preserved
loop-name-preserved g c =
    let children_of = g.G.Graph.children_of c.args.graph.now in
    let names = c.args.names.now in
    let i = c.loop-name.name-index in
    let none : Name = record { kind = Content; id = [] } in
    let name = get_or names i none in
    subst (λ (front : List Name). Meets children_of c.args.closed.now front c.args.met.now c.meet.new.met) (sym (take_more names i none c.loop-name-test.true))
    (meets_next children_of c.args.closed.now (take i names) name c.args.met.now c.loop-name.met c.meet.new.met c.loop-name.invariant (c.in_ok-meet.ensures.yes c.if-not-branch.false))

pub returns-clause-meets : goal.returns-clause-meets
returns-clause-meets g c =
    subst (λ (names : List Name). Meets (g.G.Graph.children_of c.args.graph.now) c.args.closed.now names c.args.met.now c.loop-name.met) (take_all c.loop-name.name-index c.args.names.now c.loop-name-test.false) c.loop-name.invariant
