-- One name more, to which the slots lead, or of which the map gets a place.
use Rattle.std.proofs.Common.{◌≡◌, ◌↔◌, ◌⊎◌, inl, inr, ℕ, Bool, true, false, cond, Option, Some, None, List, [], ◌∷◌, ◌++◌, refl, sym, ap, ◌∙◌, subst}
use Rattle.std.specs.Prelude.{Contains}
use Rattle.std.specs.declared.cmp.Ordering.{Ordering}
use Rattle.std.specs.BTreeMap.{BTreeMap, get, is_at}
use Rattle.std.proofs.lemmas.List.Elements.{Contains-push_cases}
use Rattle.swh_base.specs.declared.name.Name.{Name}
use Rattle.swh_base.specs.Name.{name_cmp}
use Rattle.swh_base.specs.contracts.name.NameOrd.TheImpl.{cmp-value}
use Rattle.swh_closure.proofs.Order.{order_is}
use Rattle.swh_postorder.specs.Places.{Stands, Leads, IsLed}
use Rattle.swh_marks.specs.Others.{IsFound, AreOthers}
use Rattle.swh_marks.proofs.Marked.{itself, same_at}

module _ (slots : List ℕ) (names first : List Name) (n : Name) (old new : BTreeMap Name ℕ) where
  pub others-led : AreOthers slots names first old → IsLed slots names n → AreOthers slots names (first ++ n ∷ []) old
  others-led are led = record { found = λ m there not. by_case m not (Contains-push_cases first n m there); only = are.only }
    where
      by_case : (m : Name) → (IsLed slots names m → ⊥) → Contains first m ⊎ (n ≡ m) → IsFound names m (get name_cmp old m)
      by_case m not (inl was) = are.found m was not
      by_case m not (inr same) = absurd (not (subst (IsLed slots names) same led))

  pub others-put : (place : ℕ) → AreOthers slots names first old → (IsLed slots names n → ⊥) → Stands names n place
      → ((m : Name) → get cmp-value.it new m ≡ cond (is_at (cmp-value.it n) m) (Some place) (get cmp-value.it old m)) → AreOthers slots names (first ++ n ∷ []) new
  others-put place are unled stands updates =
      record {
        found = λ m there not. found m not (Contains-push_cases first n m there) (is_at (name_cmp n) m) refl;
        only = λ m led. only m led (is_at (name_cmp n) m) refl;
      }
    where
      by_name : (m : Name) → get name_cmp new m ≡ cond (is_at (name_cmp n) m) (Some place) (get name_cmp old m)
      by_name = subst (λ (R : Name → Name → Ordering). (m : Name) → get R new m ≡ cond (is_at (R n) m) (Some place) (get R old m)) order_is updates

      here : (m : Name) (b : Bool) → is_at (name_cmp n) m ≡ b → get name_cmp new m ≡ cond b (Some place) (get name_cmp old m)
      here m b e = by_name m ∙ ap (λ (x : Bool). cond x (Some place) (get name_cmp old m)) e

      found : (m : Name) → (IsLed slots names m → ⊥) → Contains first m ⊎ (n ≡ m) → (b : Bool) → is_at (name_cmp n) m ≡ b → IsFound names m (get name_cmp new m)
      found m not there true e = subst (IsFound names m) (sym (here m true e)) (subst (λ (x : Name). Stands names x place) (same_at n m e) stands)
      found m not (inl was) false e = subst (IsFound names m) (sym (here m false e)) (are.found m was not)
      found m not (inr same) false e = absurd (let t : is_at (name_cmp n) m ≡ true = subst (λ (x : Name). is_at (name_cmp n) x ≡ true) same (itself n) in let never : true ≡ false = sym t ∙ e in cc)

      only : (m : Name) → IsLed slots names m → (b : Bool) → is_at (name_cmp n) m ≡ b → get name_cmp new m ≡ None
      only m led true e = absurd (unled (subst (IsLed slots names) (sym (same_at n m e)) led))
      only m led false e = here m false e ∙ are.only m led

-- a name that is not led to has its place in the map
pub others-have : (slots : List ℕ) (names : List Name) (n : Name) (others : BTreeMap Name ℕ) (led at : Option ℕ) → AreOthers slots names names others → Contains names n
    → ((place : ℕ) → (led ≡ Some place) ↔ Leads slots names n place) → led ≡ None → at ≡ get cmp-value.it others n → IsFound names n at
others-have slots names n others led at are there exact none is =
    subst (IsFound names n) (sym (is ∙ ap (λ (R : Name → Name → Ordering). get R others n) order_is)) (are.found n there (λ it. let some : led ≡ Some it.0 = (exact it.0).1 it.1 in cc))
