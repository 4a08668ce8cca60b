use Rattle.std.proofs.Common.{◌≡◌, ◌+◌, Bool, true, false, cond, inl, inr, List, ◌∷◌, [], length, refl, sym, ap, ◌∙◌, subst}
use Rattle.std.specs.Prelude.{Contains}
use Rattle.std.proofs.lemmas.Bool.{eqb-true}
use Rattle.swh_base.specs.declared.name.Name.{Name}
use Rattle.swh_closure.specs.declared.met.Met.{Met}
use Rattle.swh_closure.specs.Walk.{Meets}
use Rattle.swh_closure.proofs.Walks.{no_items, meets_known, meets_leaf, meets_turn}
use Rattle.swh_closure.proofs.walking.meet.Goals as goal

pub returns-then-contains-clause-yes : goal.returns-then-contains-clause-yes
returns-then-contains-clause-yes g c _ =
    meets_known (g.G.Graph.children_of c.args.graph.now) c.args.closed.now c.args.met.now c.args.name (inr (c.contains.ensures.0 c.if-contains.true))

pub returns-then-not-branch-clause-yes : goal.returns-then-not-branch-clause-yes
returns-then-not-branch-clause-yes g c _ =
    let children_of = g.G.Graph.children_of c.args.graph.now in
    let same = c.in_ok-insert.ensures.same c.if-not-branch.true in
    let listed = subst (λ (names : List Name). Contains names c.args.name) same ((c.in_ok-insert.ensures.ok c.args.name).1 (inr refl)) in
    subst (λ (names : List Name). Meets children_of c.args.closed.now (c.args.name ∷ []) c.args.met.now (let met : Met = record { names = names; turns = c.args.met.now.turns } in met)) (sym same)
    (meets_known children_of c.args.closed.now c.args.met.now c.args.name (inl listed))

pub returns-in_ok-push-clause-yes : goal.returns-in_ok-push-clause-yes
returns-in_ok-push-clause-yes g c _ =
    let met : Met = record { names = c.insert.new.self; turns = c.push.new.self } in
    let count = c.in_ok-insert.ensures.count ∙ ap (λ (added : Bool). length c.args.met.now.names + cond added 1 0) c.if-not-branch.false in
    meets_turn (g.G.Graph.children_of c.args.graph.now) c.args.closed.now c.args.met.now met c.args.name c.in-Some.kids.now (λ known. let e : false ≡ true = sym c.if-contains.false ∙ c.contains.ensures.1 known in cc) c.in-Some.ensures.held count
    c.in_ok-insert.ensures.ok (record { name = c.args.name; kids = c.in-Some.kids }) refl refl c.in_ok-push.ensures.items

pub returns-else-not-is_empty-clause-yes : goal.returns-else-not-is_empty-clause-yes
returns-else-not-is_empty-clause-yes g c _ =
    let met : Met = record { names = c.insert.new.self; turns = c.args.met.now.turns } in
    let count = c.in_ok-insert.ensures.count ∙ ap (λ (added : Bool). length c.args.met.now.names + cond added 1 0) c.if-not-branch.false in
    meets_leaf (g.G.Graph.children_of c.args.graph.now) c.args.closed.now c.args.met.now met c.args.name c.in-Some.kids.now (λ known. let e : false ≡ true = sym c.if-contains.false ∙ c.contains.ensures.1 known in cc) c.in-Some.ensures.held count
    c.in_ok-insert.ensures.ok (no_items c.in-Some.kids.now (eqb-true (length c.in-Some.kids.now) 0 (sym c.is_empty.ensures ∙ c.if-not-is_empty.false))) refl
