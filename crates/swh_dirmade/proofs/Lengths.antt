-- How long directories are: what the entries in their folders come to.
use Rattle.std.proofs.Common.{◌≡◌, ◌⊎◌, inl, inr, ℕ, zero, suc, ◌+◌, ◌<◌, List, [], ◌∷◌, ◌++◌, length, map, set, get_or, Contains, refl, sym, ap, ◌∙◌, subst, arith, length-append}
use Rattle.std.specs.Prelude.{decimal}
use Rattle.std.specs.List.{AllByRecursion, sum_by}
use Rattle.std.proofs.lemmas.Bool.{cases_lt}
use Rattle.std.proofs.lemmas.List.{get_or-set_same, get_or-set_other}
use Rattle.std.proofs.lemmas.List.Sums.{sum_by-cons}
use Rattle.swh_base.specs.declared.kind.Kind.{Kind}
use Rattle.swh_base.specs.declared.name.Name.{Name}
use Rattle.swh_base.specs.Directory.{DirectoryEntry, IsEntry, entry_text, directory_text}
use Rattle.swh_dirfmt.proofs.Modes.{decimal-100644, decimal-100755, decimal-120000, decimal-40000, decimal-160000}
use Rattle.swh_dedup.proofs.Elements.{first_is, later_is}
use Rattle.swh_dirmade.specs.declared.member.Member.{Member}
use Rattle.swh_dirmade.specs.declared.member.Member.TheVariants as stands
use Rattle.swh_dirmade.specs.declared.spot.Spot.{Spot}
use Rattle.swh_dirmade.specs.Building.{entry_at}
use Rattle.swh_dirmade.specs.Directories.{entry_of, entry_size}
use Rattle.swh_dirmade.specs.Making.{IsHeld}
use Rattle.swh_dirmade.specs.Numbers.{numbers_from}
use Rattle.swh_dirmade.specs.Sizes.{size_at, size_from, AreSizes}
use Rattle.swh_dirmade.specs.Spots.{path_to, above_at, name_at, place_at, IsTable}
use Rattle.swh_dirmade.proofs.Numbers.{step_in, step_out}
use Rattle.swh_dirmade.proofs.SpotTables.{tree_of}

text_size : (e : DirectoryEntry) (digits : ℕ) → length (decimal e.mode) ≡ digits → length e.id ≡ 20 → length (entry_text e) ≡ digits + length e.name + 22
text_size e digits d i =
    let a : length (entry_text e) ≡ length (decimal e.mode) + suc (length (e.name ++ 0 ∷ e.id)) = length-append (decimal e.mode) (32 ∷ (e.name ++ 0 ∷ e.id)) in
    let b : length (e.name ++ 0 ∷ e.id) ≡ length e.name + suc (length e.id) = length-append e.name (0 ∷ e.id) in
    omega (arith, a, b, d, i)

six : (mode : ℕ) → (mode ≡ 100644) ⊎ ((mode ≡ 100755) ⊎ (mode ≡ 120000)) → length (decimal mode) ≡ 6
six mode (inl e) = ap (λ (m : ℕ). length (decimal m)) e ∙ ap length decimal-100644
six mode (inr (inl e)) = ap (λ (m : ℕ). length (decimal m)) e ∙ ap length decimal-100755
six mode (inr (inr e)) = ap (λ (m : ℕ). length (decimal m)) e ∙ ap length decimal-120000

module _ (id : Kind → List ℕ → List ℕ) where
  entry_length : (names : List Name) (name : List ℕ) (below : List DirectoryEntry) (place : Member) → IsHeld names place → length (entry_of id name below place).id ≡ 20 → length (entry_text (entry_of id name below place)) ≡ entry_size name place
  entry_length names name below (stands.File mode content) held twenty = text_size (entry_of id name below (stands.File mode content)) 6 (six mode held.0) twenty
  entry_length names name below stands.Folder held twenty = text_size (entry_of id name below stands.Folder) 5 (ap length decimal-40000) twenty
  entry_length names name below (stands.Project revision) held twenty = text_size (entry_of id name below (stands.Project revision)) 6 (ap length decimal-160000) twenty

  -- the entries of spots are as long as their sizes say
  pub made_length : (spots : List Spot) (standing : List Member) (names : List Name) (entries : List ℕ → List DirectoryEntry) (ns : List ℕ) → ((i : ℕ) → Contains ns i → IsHeld names (place_at standing i) × IsEntry (entry_at id spots standing entries i))
      → length (directory_text (map (entry_at id spots standing entries) ns)) ≡ sum_by (size_at spots standing) ns
  made_length spots standing names entries [] h = refl
  made_length spots standing names entries (n ∷ ns) h =
      let here = h n (first_is n ns) in
      length-append (entry_text (entry_at id spots standing entries n)) (directory_text (map (entry_at id spots standing entries) ns))
      ∙ ap (λ (k : ℕ). k + length (directory_text (map (entry_at id spots standing entries) ns))) (entry_length names (name_at spots n) (entries (path_to spots n)) (place_at standing n) here.0 here.1.id)
      ∙ ap (λ (k : ℕ). size_at spots standing n + k) (made_length spots standing names entries ns (λ i c. h i (later_is n ns i c)))
      ∙ sym (sum_by-cons (size_at spots standing) n ns)

-- the fact of a number
pub held_at : {X : Type 0} (P : X → Type 0) (xs : List X) (k : ℕ) (d : X) → AllByRecursion P xs → k < length xs → P (get_or xs k d)
held_at P [] k d h lt = absurd (omega (arith, lt))
held_at P (x ∷ xs) zero d h lt = h.0
held_at P (x ∷ xs) (suc k) d h lt = held_at P xs k d h.1 (omega (arith, lt))

-- the sizes with the entry of one spot more
pub more_sizes : (spots : List Spot) (standing : List Member) (m : ℕ) (sizes now : List ℕ) → IsTable spots → 0 < m → m < length spots → AreSizes spots standing (suc m) sizes → length now ≡ length sizes → now ≡ set sizes (above_at spots m) (get_or sizes (above_at spots m) 0 + size_at spots standing m) → AreSizes spots standing m now
more_sizes spots standing m sizes now table some within are count is = record { count = count ∙ are.count; each = each }
  where
    a : ℕ
    a = above_at spots m

    down : a < m
    down = (tree_of spots table).down m some within

    each : (folder : ℕ) → folder < length spots → get_or now folder 0 ≡ size_from spots standing folder m
    each folder lt = elim (cases_same a folder) [
      | inl e ↦
          let here : get_or now a 0 ≡ get_or sizes a 0 + size_at spots standing m =
          ap (λ (xs : List ℕ). get_or xs a 0) is ∙ get_or-set_same sizes a (get_or sizes a 0 + size_at spots standing m) 0 (let c = are.count in omega (arith, down, within, c)) in
          let old : get_or sizes a 0 ≡ size_from spots standing a (suc m) = are.each a (omega (arith, down, within)) in
          let sum : size_from spots standing a m ≡ size_at spots standing m + size_from spots standing a (suc m) = ap (sum_by (size_at spots standing)) (step_in spots a m within refl) ∙ sum_by-cons (size_at spots standing) m (numbers_from spots a (suc m)) in
          subst (λ (f : ℕ). get_or now f 0 ≡ size_from spots standing f m) e (omega (arith, here, old, sum))
      | inr ne ↦
          let here : get_or now folder 0 ≡ get_or sizes folder 0 = ap (λ (xs : List ℕ). get_or xs folder 0) is ∙ get_or-set_other sizes a folder (get_or sizes a 0 + size_at spots standing m) 0 (λ e. ne (sym e)) in
          here ∙ are.each folder lt ∙ ap (sum_by (size_at spots standing)) (sym (step_out spots folder m within ne))
    ]
      where
        cases_same : (x y : ℕ) → (x ≡ y) ⊎ (x ≡ y → ⊥)
        cases_same x y = elim (cases_lt x y) [
          | inl lt ↦ inr (λ e. omega (arith, lt, e))
          | inr ge ↦ elim (cases_lt y x) [
            | inl lt ↦ inr (λ e. omega (arith, lt, e))
            | inr le ↦ inl (omega (arith, ge, le))
          ]
        ]

pub get_any : {X : Type 0} (xs : List X) (k : ℕ) (d e : X) → k < length xs → get_or xs k d ≡ get_or xs k e
get_any [] k d e lt = absurd (omega (arith, lt))
get_any (x ∷ xs) zero d e lt = refl
get_any (x ∷ xs) (suc k) d e lt = get_any xs k d e (omega (arith, lt))
