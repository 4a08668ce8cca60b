-- Places with one row more or less, and what they find.
use Rattle.std.proofs.Common.{◌≡◌, ◌≢◌, ◌⊎◌, inl, inr, ℕ, ◌+◌, Bool, true, false, cond, Option, Some, None, List, [], ◌∷◌, ◌++◌, length, take, refl, sym, ap, ◌∙◌, subst}
use Rattle.std.specs.Prelude.{Contains}
use Rattle.std.specs.Ordering.{is_eq}
use Rattle.std.specs.Cmp.{tied_itself, Equal-is}
use Rattle.std.specs.Cmp.Lexicographic.{nat_list_cmp_total}
use Rattle.std.specs.BTreeMap.{is_at}
use Rattle.std.specs.Map.{lookup}
use Rattle.std.specs.List.{AllZip, each_same}
use Rattle.std.specs.Array.{AllZipBelow}
use Rattle.std.proofs.lemmas.List.Elements.{same_from_all_zip}
use Rattle.swh_base.specs.declared.name.Name.{Name}
use Rattle.swh_base.specs.Name.{name_key, name_cmp-IsAntisymmetric}
use Rattle.swh_rows.specs.Rows.{StandsAt}
use Rattle.swh_rows.specs.Slots.{NoneLeads, AreTaken, IsNowhere, IsLedFirst, MarksStay}
use Rattle.swh_rows.specs.Places.{keys_cmp, other_at, IsLed, IsPlaced, IsPut, StaysPut}
use Rattle.swh_rows.specs.declared.places.Places.{Places}
use Rattle.swh_rows.proofs.SlotLemmas.{taken-stay, led-stays, led-somewhere, led-by-one}
use Rattle.swh_rows.proofs.StandLemmas.{lacks, contains_at, stands-more, stands-push, distinct-none, distinct-push, distinct-pop, last-alone, take-next, length-front}

-- ---- keys

-- whether a key is the queried one
abbrev pub at : List ℕ → List ℕ → Bool
at q = is_at (keys_cmp q)

same_key : (n m : Name) → at (name_key n) (name_key m) ≡ true → n ≡ m
same_key n m t = name_cmp-IsAntisymmetric n m ((Equal-is (keys_cmp (name_key n) (name_key m))).0 t)

key_itself : (n : Name) → at (name_key n) (name_key n) ≡ true
key_itself n = ap is_eq (tied_itself nat_list_cmp_total (name_key n))

-- what a map that was changed at the key of a name has there
pub key-here : (key : List ℕ) (n : Name) (o p : Option ℕ) → key ≡ name_key n → cond (at key (name_key n)) o p ≡ o
key-here key n o p is = ap (λ (k : List ℕ). cond (at k (name_key n)) o p) is ∙ ap (λ (b : Bool). cond b o p) (key_itself n)

-- what it has at the key of another
pub key-other : (key : List ℕ) (n m : Name) (o p : Option ℕ) → key ≡ name_key n → m ≢ n → cond (at key (name_key m)) o p ≡ p
key-other key n m o p is apart =
    ap (λ (k : List ℕ). cond (at k (name_key m)) o p) is
    ∙ elim (at (name_key n) (name_key m)) as (λ b. at (name_key n) (name_key m) ≡ b → cond b o p ≡ p) [
      | true ↦ λ t. absurd (apart (sym (same_key n m t)))
      | false ↦ λ _. refl
    ] refl

-- ---- what is found

-- a name that a free slot tells to stand nowhere
pub nowhere-lacks : (places : Places) (names : List Name) (n : Name) → IsPlaced places names → IsNowhere places.slots.items names n → Contains names n → ⊥
nowhere-lacks places names n placed nowhere = lacks names n (λ place there. by_led place there (placed.led n place there))
  where
    by_led : (place : ℕ) → StandsAt names n place → IsLed places n place → ⊥
    by_led place there (inl first) = led-somewhere places.slots.items names n place first there nowhere
    by_led place there (inr other) = other.0 nowhere.0 nowhere.1 nowhere.2

-- a name to which no slot leads, and whose place in the map, where it has one, is none of it
pub unled-lacks : (places : Places) (names : List Name) (n : Name) (o : Option ℕ) → IsPlaced places names → NoneLeads places.slots.items names n 4 → o ≡ other_at places n → ((place : ℕ) → o ≡ Some place → StandsAt names n place → ⊥) → Contains names n → ⊥
unled-lacks places names n o placed unled is none = lacks names n (λ place there. by_led place there (placed.led n place there))
  where
    by_led : (place : ℕ) → StandsAt names n place → IsLed places n place → ⊥
    by_led place there (inl first) = led-by-one places.slots.items names n place first there unled
    by_led place there (inr other) = none place (is ∙ other.1) there

-- ---- places

pub placed-none : (places : Places) → IsPlaced places []
placed-none places = record { distinct = distinct-none; led = λ n place there. absurd (let never : None ≡ Some n = there in cc) }

-- where nothing changed but that slots may be taken
pub placed-stay : (old new : Places) (names : List Name) → StaysPut old new → IsPlaced old names → IsPlaced new names
placed-stay old new names stay placed = record { distinct = placed.distinct; led = λ n place there. by_led n place (placed.led n place there) }
  where
    by_led : (n : Name) (place : ℕ) → IsLed old n place → IsLed new n place
    by_led n place (inl first) = inl (led-stays old.slots.items new.slots.items n place stay.marks first)
    by_led n place (inr other) = inr (taken-stay old.slots.items new.slots.items n 4 stay.marks other.0, stay.others n ∙ other.1)

-- one row more, whose name was led to its place
pub placed-push : (old new : Places) (names : List Name) (n : Name) → IsPlaced old names → IsPut old new n (length names) → (Contains names n → ⊥) → IsPlaced new (names ++ n ∷ [])
placed-push old new names n placed put absent =
    record {
      distinct = distinct-push names n placed.distinct absent;
      led = λ m place there. by_place m place (stands-push names n m place there);
    }
  where
    by_led : (m : Name) (place : ℕ) → m ≢ n → IsLed old m place → IsLed new m place
    by_led m place apart (inl first) = inl (led-stays old.slots.items new.slots.items m place put.marks first)
    by_led m place apart (inr other) = inr (taken-stay old.slots.items new.slots.items m 4 put.marks other.0, put.others m apart ∙ other.1)

    apart_from : (m : Name) (place : ℕ) → StandsAt names m place → m ≢ n
    apart_from m place there same = absent (contains_at names n place (subst (λ (x : Name). StandsAt names x place) same there))

    by_place : (m : Name) (place : ℕ) → StandsAt names m place ⊎ ((place ≡ length names) × (m ≡ n)) → IsLed new m place
    by_place m place (inl there) = by_led m place (apart_from m place there) (placed.led m place there)
    by_place m place (inr last) = subst (λ (x : Name). IsLed new x place) (sym last.1) (subst (IsLed new n) (sym last.0) put.leads)

-- one row more of the first ones
pub placed-next : (old new : Places) (names : List Name) (n : Name) (place : ℕ) → StandsAt names n place → (Contains (take place names) n → ⊥) → IsPlaced old (take place names) → IsPut old new n place → IsPlaced new (take (place + 1) names)
placed-next old new names n place there absent placed put =
    subst (IsPlaced new) (sym (take-next names n place there))
    (placed-push old new (take place names) n placed (subst (IsPut old new n) (sym (length-front names n place there)) put) absent)

-- one row less, which the map forgot
pub placed-pop : (old new : Places) (names : List Name) (n : Name) → IsPlaced old (names ++ n ∷ []) → new.slots.items ≡ old.slots.items
    → ((m : Name) → m ≢ n → other_at new m ≡ other_at old m) → IsPlaced new names
placed-pop old new names n placed same others =
    record {
      distinct = distinct-pop names (n ∷ []) placed.distinct;
      led = λ m place there. by_led m place (last-alone names n m place placed.distinct there) (placed.led m place (stands-more names (n ∷ []) m place there));
    }
  where
    by_led : (m : Name) (place : ℕ) → m ≢ n → IsLed old m place → IsLed new m place
    by_led m place apart (inl first) = inl (subst (λ (slots : List ℕ). IsLedFirst slots m place) (sym same) first)
    by_led m place apart (inr other) = inr (subst (λ (slots : List ℕ). AreTaken slots m 4) (sym same) other.0, others m apart ∙ other.1)

same_pair : (p q : List ℕ × ℕ) → AllZipBelow (λ (x y : ℕ). y ≡ x) p.0 q.0 21 × (q.1 ≡ p.1) → q ≡ p
same_pair p q same = ap (λ (key : List ℕ). (key, q.1)) (each_same p.0 q.0 same.0.whole) ∙ ap (λ (place : ℕ). (p.0, place)) same.1

-- a map that was cloned has the same entries
pub same_entries : (old new : List (List ℕ × ℕ)) → AllZip (λ (p q : List ℕ × ℕ). AllZipBelow (λ (x y : ℕ). y ≡ x) p.0 q.0 21 × (q.1 ≡ p.1)) old new → new ≡ old
same_entries old new zip = same_from_all_zip (λ (p q : List ℕ × ℕ). AllZipBelow (λ (x y : ℕ). y ≡ x) p.0 q.0 21 × (q.1 ≡ p.1)) old new zip same_pair

-- equal places
pub placed-again : (old new : Places) (names : List Name) → new.slots.items ≡ old.slots.items → new.others.entries ≡ old.others.entries → IsPlaced old names → IsPlaced new names
placed-again old new names slots entries placed =
    placed-stay old new names
    (record {
      marks = subst (MarksStay old.slots.items) (sym slots) (record { many = refl; each = λ slot place led. led });
      others = λ n. ap (λ (es : List (List ℕ × ℕ)). lookup (at (name_key n)) es) entries;
    })
    placed
