use Rattle.std.proofs.Common.{◌≡◌, true, false, List, [], get_or, refl, sym, subst}
use Rattle.swh_base.specs.declared.kind.Kind.TheVariants.{Content}
use Rattle.swh_base.specs.declared.name.Name.{Name}
use Rattle.swh_base.specs.Reach.{IsHeldIn, IsChildIn, IsCovered, CertifiesIn}
use Rattle.swh_base.proofs.Reaches.{certified-closed}
use Rattle.swh_closure.specs.Certificate.{IsGap}
use Rattle.swh_closure.proofs.Order.{item_is}
use Rattle.swh_closure.proofs.Walks.{each_more, each_of_all}
use Rattle.swh_closure.proofs.checking.check.Goals as goal

pub returns-in-Err-clause-err : goal.returns-in-Err-clause-err
returns-in-Err-clause-err g c =
    subst (λ (names : List Name). IsGap (g.G.Graph.children_of c.args.graph.now) c.args.closed.now names c.args.cert.now.root c.in-Err.gap) c.as_slice-names.ensures.value
    (c.in-Err.ensures.err c.args.cert.now.root)

pub returns-then-not-is_covered-clause-err : goal.returns-then-not-is_covered-clause-err
returns-then-not-is_covered-clause-err g c = (
  refl,
  λ covered.
      let there = subst (λ (names : List Name). IsCovered c.args.closed.now names c.args.cert.now.root) (sym c.as_slice-names.ensures.value) covered in
      let no : false ≡ true = c.if-not-is_covered.ensures.1 there in
      absurd (cc),
)

pub loop-name-preserved : goal.loop-name-preserved
loop-name-preserved g c =
    let children_of = g.G.Graph.children_of c.args.graph.now in
    let names = c.as_slice-names.result.now in
    let none : Name = record { kind = Content; id = [] } in
    let name = get_or names c.loop-name.name-index none in
    each_more (λ (n : Name). IsHeldIn children_of n × ((child : Name) → IsChildIn children_of n child → IsCovered c.args.closed.now names child)) names c.loop-name.name-index name c.loop-name-test.true
    (item_is names c.loop-name.name-index none name c.loop-name-test.true) c.loop-name.invariant (c.in_default.ensures.held, c.in_default.ensures.kids)

pub returns-clause-ok : goal.returns-clause-ok
returns-clause-ok g c =
    let children_of = g.G.Graph.children_of c.args.graph.now in
    let names = c.as_slice-names.result.now in
    let all = each_of_all (λ (n : Name). IsHeldIn children_of n × ((child : Name) → IsChildIn children_of n child → IsCovered c.args.closed.now names child)) names c.loop-name.name-index c.loop-name-test.false c.loop-name.invariant in
    subst (λ (ns : List Name). CertifiesIn children_of c.args.closed.now ns c.args.cert.now.root) c.as_slice-names.ensures.value
    (record { begins = c.if-not-is_covered.ensures.0 refl; held = λ n h. (all n h).0; kids = λ n child h by. (all n h).1 child by })

pub returns-clause-closed : goal.returns-clause-closed
returns-clause-closed g c are =
    let children_of = g.G.Graph.children_of c.args.graph.now in
    certified-closed (IsHeldIn children_of) (IsChildIn children_of) c.args.closed.now c.args.cert.now.names.items c.args.cert.now.root are (returns-clause-ok g c)
