use Rattle.std.proofs.Common.{List, [], get_or, sym, ◌∙◌, subst}
use Rattle.std.specs.Prelude.{Contains}
use Rattle.std.proofs.lemmas.List.{take_all}
use Rattle.std.proofs.lemmas.List.Elements.{Contains-get_or}
use Rattle.swh_base.specs.declared.kind.Kind.TheVariants.{Content}
use Rattle.swh_base.specs.declared.name.Name.{Name}
use Rattle.swh_postorder.specs.Cycle.{ArePreceded}
use Rattle.swh_postorder.proofs.Preceded.{held_in, none_found, preceded_none, found_at, set_more, preceded_at}
use Rattle.swh_postorder.proofs.cycles.first_unpreceded.Goals as goal

abbrev none : Name
none = record { kind = Content; id = [] }

pub child_outside-requires : goal.child_outside-requires
child_outside-requires g c =
    let there = Contains-get_or c.args.order.now c.loop-name.name-index none c.loop-name-test.true in
    held_in (g.G.Graph.children_of c.args.graph.now) c.args.order.now c.requires (get_or c.args.order.now c.loop-name.name-index none) there

pub loop-name-init : goal.loop-name-init
loop-name-init g c = record {
  set = λ n. (λ there. subst (λ (names : List Name). Contains names n) c.new-left.ensures there, λ there. subst (λ (names : List Name). Contains names n) (sym c.new-left.ensures) there);
  preceded = preceded_none (g.G.Graph.children_of c.args.graph.now);
}

pub returns-then-is_some-clause-some : goal.returns-then-is_some-clause-some
returns-then-is_some-clause-some g c =
    found_at (g.G.Graph.children_of c.args.graph.now) c.args.order.now c.loop-name.name-index none c.loop-name-test.true c.loop-name.left c.loop-name.invariant.set c.loop-name.invariant.preceded c.requires
    c.child_outside.result (sym c.is_some.ensures ∙ c.if-is_some.true) c.child_outside.ensures.some

pub loop-name-preserved : goal.loop-name-preserved
loop-name-preserved g c =
    let children_of = g.G.Graph.children_of c.args.graph.now in
    let order = c.args.order.now in
    let i = c.loop-name.name-index in
    record {
      set = set_more children_of order i none c.loop-name-test.true c.loop-name.left c.loop-name.invariant.set c.loop-name.invariant.preceded c.add.new.self c.in_ok-add.ensures.ok;
      preceded =
          preceded_at children_of order i none c.loop-name-test.true c.loop-name.left c.loop-name.invariant.set c.loop-name.invariant.preceded c.child_outside.result (sym c.is_some.ensures ∙ c.if-is_some.false) c.child_outside.ensures.none;
    }

pub returns-clause-none : goal.returns-clause-none
returns-clause-none g c =
    let all = take_all c.loop-name.name-index c.args.order.now c.loop-name-test.false in
    none_found (g.G.Graph.children_of c.args.graph.now) c.args.order.now c.requires (subst (ArePreceded (g.G.Graph.children_of c.args.graph.now)) all c.loop-name.invariant.preceded)
