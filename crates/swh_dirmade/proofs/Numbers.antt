-- The numbers of the spots of one folder, one after another.
use Rattle.std.proofs.Common.{◌≡◌, ◌≢◌, ◌⊎◌, inl, inr, ℕ, zero, suc, ◌+◌, ◌-◌, ◌<◌, ◌≤◌, Bool, true, false, List, [], ◌∷◌, length, map, get_or, Contains, refl, sym, ap, ◌∙◌, subst, arith}
use Rattle.std.specs.Prelude.{◌==◌}
use Rattle.std.specs.List.{AllPairs}
use Rattle.std.proofs.lemmas.Bool.{cases_lt}
use Rattle.std.proofs.lemmas.Bool.Decides.{Decides-eqb}
use Rattle.std.proofs.lemmas.List.Elements.{All-from_recursion}
use Rattle.std.proofs.lemmas.List.Kept.{AllPairs-cons}
use Rattle.swh_dedup.proofs.Elements.{first_or_later, first_is, later_is, none_is, from_map, all_from}
use Rattle.swh_dirmade.specs.declared.spot.Spot.{Spot}
use Rattle.swh_dirmade.specs.Spots.{above_at, name_at, IsTable}
use Rattle.swh_dirmade.specs.Numbers.{with_number, numbers_in, numbers_from}
use Rattle.swh_base.specs.Directory.{IsEntryName}
use Rattle.swh_dirmade.proofs.SpotTables.{above_is, name_is, entry_name, tree_of}

with_cases : (b : Bool) (n : ℕ) (ns : List ℕ) (i : ℕ) → Contains (with_number b n ns) i → ((b ≡ true) × (n ≡ i)) ⊎ Contains ns i
with_cases true n ns i c = elim (first_or_later n ns i c) [ inl e ↦ inl (refl, e) | inr d ↦ inr d ]
with_cases false n ns i c = inr c

with_first : (b : Bool) (n : ℕ) (ns : List ℕ) → b ≡ true → Contains (with_number b n ns) n
with_first true n ns e = first_is n ns
with_first false n ns e = absurd (cc)

with_later : (b : Bool) (n : ℕ) (ns : List ℕ) (i : ℕ) → Contains ns i → Contains (with_number b n ns) i
with_later true n ns i c = later_is n ns i c
with_later false n ns i c = c

pub in_numbers : (spots : List Spot) (folder from more i : ℕ) → Contains (numbers_in spots folder from more) i → (from ≤ i) × ((i < from + more) × (above_at spots i ≡ folder))
in_numbers spots folder from zero i c = absurd (none_is i c)
in_numbers spots folder from (suc more) i c = elim (with_cases (above_at spots from == folder) from (numbers_in spots folder (suc from) more) i c) [
  | inl h ↦ let e = h.1 in (omega (arith, e), (omega (arith, e), subst (λ (k : ℕ). above_at spots k ≡ folder) e ((Decides-eqb (above_at spots from) folder).0 h.0)))
  | inr d ↦ let r = in_numbers spots folder (suc from) more i d in let low = r.0 in let high = r.1.0 in (omega (arith, low), (omega (arith, high), r.1.1))
]

pub has_number : (spots : List Spot) (folder from more i : ℕ) → from ≤ i → i < from + more → above_at spots i ≡ folder → Contains (numbers_in spots folder from more) i
has_number spots folder from zero i low high is = absurd (omega (arith, low, high))
has_number spots folder from (suc more) i low high is = elim (cases_lt from i) [
  | inl lt ↦ with_later (above_at spots from == folder) from (numbers_in spots folder (suc from) more) i (has_number spots folder (suc from) more i (omega (arith, lt)) (omega (arith, high)) is)
  | inr ge ↦
      let e : from ≡ i = omega (arith, low, ge) in
      let test : (above_at spots from == folder) ≡ true = (Decides-eqb (above_at spots from) folder).1 (subst (λ (k : ℕ). above_at spots k ≡ folder) (sym e) is) in
      subst (λ (k : ℕ). Contains (with_number (above_at spots from == folder) from (numbers_in spots folder (suc from) more)) k) e (with_first (above_at spots from == folder) from (numbers_in spots folder (suc from) more) test)
]

-- the first of the numbers from one on
pub from_step : (spots : List Spot) (folder from : ℕ) → from < length spots → numbers_from spots folder from ≡ with_number (above_at spots from == folder) from (numbers_from spots folder (suc from))
from_step spots folder from lt = let e : length spots - from ≡ suc (length spots - suc from) = omega (arith, lt) in ap (numbers_in spots folder from) e

pub from_end : (spots : List Spot) (folder : ℕ) → numbers_from spots folder (length spots) ≡ []
from_end spots folder = let e : length spots - length spots ≡ zero = omega arith in ap (numbers_in spots folder (length spots)) e

pub bounds : (spots : List Spot) (folder from i : ℕ) → from ≤ length spots → Contains (numbers_from spots folder from) i → (from ≤ i) × ((i < length spots) × (above_at spots i ≡ folder))
bounds spots folder from i le c = let r = in_numbers spots folder from (length spots - from) i c in let high = r.1.0 in (r.0, (omega (arith, high, le), r.1.1))

pub with_none : (b : Bool) (n : ℕ) (ns : List ℕ) → (b ≡ true → ⊥) → with_number b n ns ≡ ns
with_none true n ns h = absurd (h refl)
with_none false n ns h = refl

pub with_one : (b : Bool) (n : ℕ) (ns : List ℕ) → b ≡ true → with_number b n ns ≡ n ∷ ns
with_one true n ns e = refl
with_one false n ns e = absurd (cc)

-- where the spot of a number stands in this folder
pub step_in : (spots : List Spot) (folder from : ℕ) → from < length spots → above_at spots from ≡ folder → numbers_from spots folder from ≡ from ∷ numbers_from spots folder (suc from)
step_in spots folder from lt is = from_step spots folder from lt ∙ with_one (above_at spots from == folder) from (numbers_from spots folder (suc from)) ((Decides-eqb (above_at spots from) folder).1 is)

pub step_out : (spots : List Spot) (folder from : ℕ) → from < length spots → (above_at spots from ≡ folder → ⊥) → numbers_from spots folder from ≡ numbers_from spots folder (suc from)
step_out spots folder from lt is = from_step spots folder from lt ∙ with_none (above_at spots from == folder) from (numbers_from spots folder (suc from)) (λ e. is ((Decides-eqb (above_at spots from) folder).0 e))

-- what stands in a folder has numbers above the folder's
skip : (spots : List Spot) (folder : ℕ) (d from : ℕ) → IsTable spots → 0 < from → folder < length spots → from + d ≡ suc folder → numbers_from spots folder from ≡ numbers_from spots folder (suc folder)
skip spots folder zero from table some within e = let same : from ≡ suc folder = omega (arith, e) in ap (numbers_from spots folder) same
skip spots folder (suc d) from table some within e =
    let lt : from < length spots = omega (arith, e, within) in
    let down = (tree_of spots table).down from some lt in
    step_out spots folder from lt (λ is. let i = is in omega (arith, i, down, e)) ∙ skip spots folder d (suc from) table (omega arith) within (omega (arith, e))

pub skip_low : (spots : List Spot) (folder : ℕ) → IsTable spots → folder < length spots → numbers_from spots folder 1 ≡ numbers_from spots folder (suc folder)
skip_low spots folder table within = skip spots folder folder 1 table (omega arith) within (omega arith)

-- no two of them have one name
names_once_in : (spots : List Spot) (folder from more : ℕ) → IsTable spots → 0 < from → from + more ≤ length spots → AllPairs (λ a b. a ≢ b) (map (name_at spots) (numbers_in spots folder from more))
names_once_in spots folder from zero table some le = λ i j d lt within. absurd (omega (arith, within))
names_once_in spots folder from (suc more) table some le = by_test (above_at spots from == folder) (Decides-eqb (above_at spots from) folder).0 (names_once_in spots folder (suc from) more table (omega arith) (omega (arith, le)))
  where
    apart : above_at spots from ≡ folder → (name : List ℕ) → Contains (map (name_at spots) (numbers_in spots folder (suc from) more)) name → name_at spots from ≢ name
    apart is name c e =
        let f = from_map (name_at spots) (numbers_in spots folder (suc from) more) name c in
        let b = in_numbers spots folder (suc from) more f.0 f.1 in
        let low = b.0 in
        let high = b.1.0 in
        let same = (tree_of spots table).once from f.0 some (omega (arith, le)) (omega (arith, low)) (omega (arith, high, le)) (is ∙ sym b.1.1) (e ∙ sym f.2) in
        absurd (omega (arith, same, low))

    by_test : (b : Bool) → (b ≡ true → above_at spots from ≡ folder) → AllPairs (λ a b. a ≢ b) (map (name_at spots) (numbers_in spots folder (suc from) more)) → AllPairs (λ a b. a ≢ b) (map (name_at spots) (with_number b from (numbers_in spots folder (suc from) more)))
    by_test true is others = AllPairs-cons (λ a b. a ≢ b) (name_at spots from) (map (name_at spots) (numbers_in spots folder (suc from) more)) (All-from_recursion (λ name. name_at spots from ≢ name) (map (name_at spots) (numbers_in spots folder (suc from) more)) (all_from (λ name. name_at spots from ≢ name) (map (name_at spots) (numbers_in spots folder (suc from) more)) (apart (is refl)))) others
    by_test false is others = others

pub names_once : (spots : List Spot) (folder from : ℕ) → IsTable spots → 0 < from → from ≤ length spots → AllPairs (λ a b. a ≢ b) (map (name_at spots) (numbers_from spots folder from))
names_once spots folder from table some le = names_once_in spots folder from (length spots - from) table some (omega (arith, le))

-- the spot of a number
pub record IsSpotAt (spots : List Spot) (m : ℕ) (spot : Spot) : Type 0 where
  pub name : spot.name ≡ name_at spots m
  pub above : spot.above ≡ above_at spots m
  pub down : spot.above < m
  pub named : IsEntryName spot.name

pub spot_at : (spots : List Spot) (m : ℕ) (spot : Spot) → IsTable spots → 0 < m → m < length spots → spot ≡ get_or spots m spot → IsSpotAt spots m spot
spot_at spots m spot table some lt is =
    let name : spot.name ≡ name_at spots m = ap (λ (s : Spot). s.name) is ∙ sym (name_is spots m spot lt) in
    let above : spot.above ≡ above_at spots m = ap (λ (s : Spot). s.above) is ∙ sym (above_is spots m spot lt) in
    let down = (tree_of spots table).down m some lt in
    record { name = name; above = above; down = omega (arith, above, down); named = subst IsEntryName (sym name) (entry_name spots m table some lt) }
