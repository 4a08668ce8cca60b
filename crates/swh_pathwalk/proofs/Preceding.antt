-- Where nothing in the order is reached from itself, each child stands before its parent.
use Rattle.std.proofs.Common.{inl, inr, Option, List, ◌∷◌, sym, ◌∙◌, subst}
use Rattle.std.specs.Prelude.{Contains}
use Rattle.std.proofs.lemmas.List.Elements.{Contains-append_left, Contains-append_right}
use Rattle.swh_base.specs.declared.name.Name.{Name}
use Rattle.swh_postorder.specs.Cycle.{ArePreceded, IsOnCycle}
use Rattle.swh_postorder.specs.Postorder.{IsPostorder}
use Rattle.swh_postorder.proofs.Orders.{AtOne, Sooner, Later, cuts, order_once, order_front}
use Rattle.swh_postorder.proofs.Trips.{first_in}

module _ (children_of : Name → Option (List Name)) (root : Name) (order : List Name) (is : IsPostorder children_of root order) where
  pub all_preceded : ((n : Name) → Contains order n → IsOnCycle children_of n → ⊥) → ArePreceded children_of order
  all_preceded acyclic before name behind cut child by =
      let there = subst (λ (l : List Name). Contains l name) (sym cut) (Contains-append_right before (name ∷ behind) name (first_in name behind)) in
      elim (order_front children_of root order is name child there by) [
        | inr returns ↦ absurd (acyclic name there (record { child = child; is_child = by; returns = returns }))
        | inl p ↦
            elim (cuts before p.before name name behind p.behind (sym cut ∙ p.cut)) [
              | AtOne same _ _ ↦ subst (λ (l : List Name). Contains l child) (sym same) p.there
              | Sooner more long _ ↦
                  absurd (order_once children_of root order is name
                  (record { before = p.before; behind = p.behind; cut = p.cut; there = subst (λ (l : List Name). Contains l name) (sym long) (Contains-append_right before (name ∷ more) name (first_in name more)) }))
              | Later more long _ ↦ subst (λ (l : List Name). Contains l child) (sym long) (Contains-append_left p.before (name ∷ more) child p.there)
            ]
      ]
