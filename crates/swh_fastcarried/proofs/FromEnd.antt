-- The first of some names that breaks a rule, found from their end.
use Rattle.std.proofs.Common.{◌≡◌, inl, inr, ℕ, ◌+◌, ◌<◌, Option, Some, None, List, [], ◌∷◌, length, drop, get_or, refl, sym, ap, subst, add-one, drop-cons}
use Rattle.std.specs.Prelude.{Contains, IfSome, IfNone}
use Rattle.std.proofs.Math.Seq.{drop-length}
use Rattle.swh_base.specs.declared.name.Name.{Name}
use Rattle.swh_base.proofs.Elementary.{none_in}
use Rattle.swh_graph.proofs.Lists.{in_cases}
use Rattle.swh_carried.specs.declared.fault.Why.{Why}
use Rattle.swh_carried.specs.Uncarried.{BreaksNone}
use Rattle.swh_fastcarried.specs.First.{IsFirstRule, IsFirstFound}

module _ (Breaks : Name → Why → Type 0) where
  -- at the end there is none
  pub none_at_end : (order : List Name) → IsFirstFound Breaks (drop (length order) order) None
  none_at_end order = subst (λ (l : List Name). IsFirstFound Breaks l None) (sym (drop-length order)) (λ n there. absurd (none_in n there))

  module _ (name : Name) (names : List Name) where
    none_before : (front : List Name) → BreaksNone Breaks name → ((n : Name) → Contains front n → BreaksNone Breaks n) → (n : Name) → Contains (name ∷ front) n → BreaksNone Breaks n
    none_before front none all n there = elim (in_cases name front n there) [ inl same ↦ subst (BreaksNone Breaks) same none | inr later ↦ all n later ]

    found_later : BreaksNone Breaks name → (found : Option (Name × Why)) → IsFirstFound Breaks names found → IsFirstFound Breaks (name ∷ names) found
    found_later none None all = none_before names none all
    found_later none (Some found) is = record {
      before = name ∷ is.before;
      behind = is.behind;
      cut = ap (λ (l : List Name). name ∷ l) is.cut;
      is = is.is;
      none = none_before is.before none is.none;
    }

    -- one name more, before the others
    pub found_more : (rule : Option Why) → IsFirstRule Breaks name rule → (found result : Option (Name × Why)) → IsFirstFound Breaks names found → IfSome rule (λ why. result ≡ Some (name, why)) → IfNone rule (result ≡ found)
        → IsFirstFound Breaks (name ∷ names) result
    found_more None none found result is some same = subst (IsFirstFound Breaks (name ∷ names)) (sym same) (found_later none found is)
    found_more (Some why) first found result is same none =
        subst (IsFirstFound Breaks (name ∷ names)) (sym same) (record { before = []; behind = names; cut = refl; is = first; none = λ n there. absurd (none_in n there) })

  pub found_at : (order : List Name) (i : ℕ) (none : Name) → i < length order → (found : Option (Name × Why)) → IsFirstFound Breaks (get_or order i none ∷ drop (i + 1) order) found → IsFirstFound Breaks (drop i order) found
  found_at order i none within found is =
      let cut : drop i order ≡ get_or order i none ∷ drop (i + 1) order = rw (add-one, drop-cons order i none) in
      subst (λ (l : List Name). IsFirstFound Breaks l found) (sym cut) is
