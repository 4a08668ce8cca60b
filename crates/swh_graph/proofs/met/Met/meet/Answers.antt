use Rattle.std.proofs.Common.{◌≡◌, ◌⊎◌, inl, inr, true, false, List, [], ◌∷◌, ◌++◌, refl, sym, ap, ◌∙◌, subst}
use Rattle.std.specs.Prelude.{Contains, ◌↔◌}
use Rattle.std.proofs.lemmas.List.Elements.{Contains-append_left, Contains-push, Contains-push_cases}
use Rattle.swh_base.specs.declared.name.Name.{Name}
use Rattle.swh_graph.proofs.met.Met.meet.Goals as goal

-- one more name stands in both
both_have : (known added old new : List Name) (name : Name) → ((n : Name) → Contains known n ↔ Contains old n) → ((n : Name) → Contains added n ↔ (Contains known n ⊎ (name ≡ n)))
    → new ≡ old ++ name ∷ [] → (n : Name) → Contains added n ↔ Contains new n
both_have known added old new name same more is n = (
  λ h. subst (λ (ns : List Name). Contains ns n) (sym is) (elim ((more n).0 h) [
    | inl was ↦ Contains-append_left old (name ∷ []) n ((same n).0 was)
    | inr this ↦ subst (Contains (old ++ name ∷ [])) this (Contains-push old name)
  ]),
  λ h. (more n).1 (elim (Contains-push_cases old name n (subst (λ (ns : List Name). Contains ns n) is h)) [ inl was ↦ inl ((same n).1 was) | inr this ↦ inr this ]),
)

pub returns-then-contains : goal.returns-then-contains
returns-then-contains c =
    inl (subst (λ (ns : List Name). Contains ns c.args.name) c.self.view_is ((c.self.invariant c.args.name).0 (c.contains.ensures.0 c.if-contains.true)), refl)

pub invariant_of-self : goal.invariant_of-self
invariant_of-self c n = subst (λ (ns : List Name). Contains c.self.inside.known n ↔ Contains ns n) (sym c.reserve.ensures.items) (c.self.invariant n)

pub invariant_of-self-in_err-add : goal.invariant_of-self-in_err-add
invariant_of-self-in_err-add c n =
    subst (λ (ns : List Name). Contains ns n ↔ Contains c.reserve.new.self.items n) (sym c.in_err-add.ensures.err)
    (subst (λ (ns : List Name). Contains c.self.inside.known n ↔ Contains ns n) (sym c.reserve.ensures.items) (c.self.invariant n))

pub invariant_of-self-2 : goal.invariant_of-self-2
invariant_of-self-2 c =
    both_have c.self.inside.known c.add.new.self c.self.inside.names.items c.push_reserved.new.self.items c.args.name c.self.invariant c.in_ok-add.ensures.ok
    (c.push_reserved.ensures.items ∙ ap (λ (ns : List Name). ns ++ c.args.name ∷ []) c.reserve.ensures.items)

pub returns : goal.returns
returns c =
    inr (
      λ h. let e : false ≡ true = sym c.if-contains.false ∙ c.contains.ensures.1 ((c.self.invariant c.args.name).1 (subst (λ (ns : List Name). Contains ns c.args.name) (sym c.self.view_is) h)) in cc,
      c.push_reserved.ensures.items ∙ ap (λ (ns : List Name). ns ++ c.args.name ∷ []) (c.reserve.ensures.items ∙ c.self.view_is),
    )
