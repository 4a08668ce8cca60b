-- How long the directories of such a folder are.
use Rattle.std.proofs.Common.{◌≡◌, ◌≢◌, ◌⊎◌, inl, inr, ℕ, zero, suc, ◌+◌, ◌≤◌, Option, Some, None, List, [], ◌∷◌, ◌++◌, length, get_or, Contains, refl, sym, ap, ◌∙◌, subst, arith}
use Rattle.std.specs.Prelude.{AllPairs, decimal}
use Rattle.std.specs.List.{filter_map, cons_option, sum_by}
use Rattle.std.specs.Option.{option_map}
use Rattle.std.proofs.lemmas.List.{length-append}
use Rattle.std.proofs.lemmas.List.Elements.{All-contains_itself}
use Rattle.std.proofs.lemmas.List.Sums.{sum_by-cons}
use Rattle.swh_base.specs.Directory.{DirectoryEntry, IsEntry, IsEntryName, IsMode, AreEntries, entry_text, directory_text}
use Rattle.swh_base.specs.Limits.{body_limit}
use Rattle.swh_dirfmt.proofs.Modes.{decimal-100644, decimal-100755, decimal-120000, decimal-40000, decimal-160000}
use Rattle.swh_dedup.proofs.Elements.{first_or_later, first_is, later_is, none_is, each_is}
use Rattle.swh_dirmade.specs.Paths.{child}
use Rattle.swh_dirmade.specs.Spots.{Places}
use Rattle.swh_dirmade.specs.Directories.{Row, mode_digits, row_size, HasSize}
use Rattle.swh_dirmade.specs.declared.member.Member.{Member}
use Rattle.swh_dirmade.specs.declared.member.Member.TheVariants as stands
use Rattle.swh_cook.proofs.Read.{found_of}
use Rattle.swh_cook.proofs.Placed.{final_of}

-- a name with what stands under it
abbrev row_of : (DirectoryEntry → Option Member) → DirectoryEntry → Option Row
row_of g e = option_map (λ (p : Member). (e.name, p)) (g e)

abbrev rows_of : (DirectoryEntry → Option Member) → List DirectoryEntry → List Row
rows_of g es = filter_map (row_of g) es

option_there : {X : Type 0} (o : Option X) (xs : List X) (x : X) → Contains (cons_option o xs) x → (o ≡ Some x) ⊎ Contains xs x
option_there None xs x there = inr there
option_there {X} (Some y) xs x there = elim (first_or_later y xs x there) [ inl same ↦ inl (ap (λ (z : X). Some z) same) | inr later ↦ inr later ]

more_there : {X : Type 0} (o : Option X) (xs : List X) (x : X) → Contains xs x → Contains (cons_option o xs) x
more_there None xs x there = there
more_there (Some y) xs x there = later_is y xs x there

row_from : (name : List ℕ) (o : Option Member) (row : Row) → option_map (λ (p : Member). (name, p)) o ≡ Some row → (o ≡ Some row.1) × (name ≡ row.0)
row_from name None row is = absurd cc
row_from name (Some p) row is = (cc, cc)

module _ (g : DirectoryEntry → Option Member) where
  from_rows : (es : List DirectoryEntry) (row : Row) → Contains (rows_of g es) row → (e : DirectoryEntry) × Contains es e × (g e ≡ Some row.1) × (e.name ≡ row.0)
  from_rows [] row there = absurd (none_is row there)
  from_rows (e ∷ es) row there =
      elim (option_there (row_of g e) (rows_of g es) row there) [
        | inl is ↦ let r = row_from e.name (g e) row is in (e, first_is e es, r.0, r.1)
        | inr later ↦ let h = from_rows es row later in (h.0, later_is e es h.0 h.1, h.2, h.3)
      ]

  to_rows : (es : List DirectoryEntry) (e : DirectoryEntry) (place : Member) → Contains es e → g e ≡ Some place → Contains (rows_of g es) (e.name, place)
  to_rows [] e place there is = absurd (none_is e there)
  to_rows (d ∷ es) e place there is =
      elim (first_or_later d es e there) [
        | inl same ↦
            let here : row_of g d ≡ Some (e.name, place) = ap (row_of g) same ∙ ap (λ (o : Option Member). option_map (λ (p : Member). (e.name, p)) o) is in
            subst (λ (o : Option Row). Contains (cons_option o (rows_of g es)) (e.name, place)) (sym here) (first_is (e.name, place) (rows_of g es))
        | inr later ↦ more_there (row_of g d) (rows_of g es) (e.name, place) (to_rows es e place later is)
      ]

  -- The names differ.
  abbrev NameApart : Row → Row → Type 0
  NameApart a b = a.0 ≢ b.0

  pairs_cons : (row : Row) (rows : List Row) → ((r : Row) → Contains rows r → NameApart row r) → AllPairs NameApart rows → AllPairs NameApart (row ∷ rows)
  pairs_cons row rows first rest zero zero d less within = absurd (omega (arith, less))
  pairs_cons row rows first rest zero (suc j) d less within = first (get_or rows j d) (All-contains_itself rows j d (omega (arith, within)))
  pairs_cons row rows first rest (suc i) zero d less within = absurd (omega (arith, less))
  pairs_cons row rows first rest (suc i) (suc j) d less within = rest i j d (omega (arith, less)) (omega (arith, within))

  no_pairs : AllPairs NameApart []
  no_pairs i j d less within = absurd (omega (arith, within))

  once_option : (o : Option Row) (rows : List Row) → ((row : Row) → o ≡ Some row → (r : Row) → Contains rows r → NameApart row r) → AllPairs NameApart rows → AllPairs NameApart (cons_option o rows)
  once_option None rows first rest = rest
  once_option (Some row) rows first rest = pairs_cons row rows (first row refl) rest

  rows_once : (es : List DirectoryEntry) → AreEntries es → AllPairs NameApart (rows_of g es)
  rows_once [] good = no_pairs
  rows_once (e ∷ es) good =
      once_option (row_of g e) (rows_of g es)
      (λ row is r there same.
      let h = from_rows es r there in
      each_is (λ other. e.name ≢ other.name) es h.0 good.1 h.1 ((row_from e.name (g e) row is).1 ∙ same ∙ sym h.3))
      (rows_once es good.3)

  -- ---- sums

  -- A mode has at least so many digits.
  abbrev HasDigits : DirectoryEntry → Type 0
  HasDigits e = (place : Member) → g e ≡ Some place → mode_digits place ≤ length (decimal e.mode)

  row_short : (e : DirectoryEntry) (place : Member) → mode_digits place ≤ length (decimal e.mode) → length e.id ≡ 20 → row_size (e.name, place) ≤ length (entry_text e)
  row_short e place digits twenty =
      let a : length (entry_text e) ≡ length (decimal e.mode) + suc (length (e.name ++ 0 ∷ e.id)) = length-append (decimal e.mode) (32 ∷ (e.name ++ 0 ∷ e.id)) in
      let b : length (e.name ++ 0 ∷ e.id) ≡ length e.name + suc (length e.id) = length-append e.name (0 ∷ e.id) in
      omega (arith, a, b, digits, twenty)

  sum_option : (o : Option Row) (rows : List Row) (more : ℕ) → ((row : Row) → o ≡ Some row → row_size row ≤ more) → sum_by row_size (cons_option o rows) ≤ more + sum_by row_size rows
  sum_option None rows more small = omega arith
  sum_option (Some row) rows more small = let one = small row refl in let sum = sum_by-cons row_size row rows in omega (arith, one, sum)

  rows_short : (es : List DirectoryEntry) → AreEntries es → ((e : DirectoryEntry) → Contains es e → HasDigits e) → sum_by row_size (rows_of g es) ≤ length (directory_text es)
  rows_short [] good digits = omega arith
  rows_short (e ∷ es) good digits =
      let rest = rows_short es good.3 (λ d there. digits d (later_is e es d there)) in
      let here = sum_option (row_of g e) (rows_of g es) (length (entry_text e))
      (λ row is.
      let r = row_from e.name (g e) row is in
      let short = row_short e row.1 (digits e (first_is e es) row.1 r.0) good.0.id in
      let name = ap (λ (s : List ℕ). length s) r.1 in
      omega (arith, short, name)) in
      let both = length-append (entry_text e) (directory_text es) in
      omega (arith, rest, here, both)

  -- ---- a directory

  module _ (places : Places) (dir : List ℕ) (es : List DirectoryEntry) (good : AreEntries es) (body_short : length (directory_text es) ≤ body_limit)
      (named : (e : DirectoryEntry) → Contains es e → IsEntryName e.name)
      (digits : (e : DirectoryEntry) → Contains es e → HasDigits e)
      (to : (e : DirectoryEntry) → Contains es e → (place : Member) → g e ≡ Some place → places (child dir e.name) ≡ Some place)
      (from : (name : List ℕ) (place : Member) → IsEntryName name → places (child dir name) ≡ Some place → (e : DirectoryEntry) × Contains es e × (e.name ≡ name) × (g e ≡ Some place))
    where
      pub dir_short : (size : ℕ) × HasSize places dir size × (size ≤ body_limit)
      dir_short =
          let short = rows_short es good digits in (
            sum_by row_size (rows_of g es),
            record {
              rows = rows_of g es;
              once = rows_once es good;
              all = λ row. (
                λ there.
                    let h = from_rows es row there in
                    (subst IsEntryName h.3 (named h.0 h.1), subst (λ (name : List ℕ). places (child dir name) ≡ Some row.1) h.3 (to h.0 h.1 row.1 h.2)),
                λ h.
                    let e = from row.0 row.1 h.0 h.1 in
                    subst (λ (name : List ℕ). Contains (rows_of g es) (name, row.1)) e.2 (to_rows es e.0 row.1 e.1 e.3),
              );
              sum = refl;
            },
            omega (arith, short, body_short),
          )

-- ---- digits

some_same : (p q : Member) → Some p ≡ Some q → p ≡ q
some_same p q e = cc

digits_by : (p q : Member) (n : ℕ) → Some p ≡ Some q → mode_digits p ≤ n → mode_digits q ≤ n
digits_by p q n e less = subst (λ (x : Member). mode_digits x ≤ n) (some_same p q e) less

abbrev FoundDigits : ℕ → List ℕ → List ℕ → Type 0
FoundDigits mode name id = let e : DirectoryEntry = record { mode = mode; name = name; id = id } in (place : Member) → found_of e ≡ Some place → mode_digits place ≤ length (decimal mode)

found_by : (mode : ℕ) (name id : List ℕ) → IsMode mode → FoundDigits mode name id
found_by mode name id (inl e) = subst (λ (m : ℕ). FoundDigits m name id) (sym e) (λ place is. digits_by (stands.File 100644 id) place (length (decimal 100644)) is (let d = ap (λ (l : List ℕ). length l) decimal-100644 in omega (arith, d)))
found_by mode name id (inr (inl e)) = subst (λ (m : ℕ). FoundDigits m name id) (sym e) (λ place is. digits_by (stands.File 100644 id) place (length (decimal 100755)) is (let d = ap (λ (l : List ℕ). length l) decimal-100755 in omega (arith, d)))
found_by mode name id (inr (inr (inl e))) = subst (λ (m : ℕ). FoundDigits m name id) (sym e) (λ place is. digits_by (stands.File 100644 id) place (length (decimal 120000)) is (let d = ap (λ (l : List ℕ). length l) decimal-120000 in omega (arith, d)))
found_by mode name id (inr (inr (inr (inl e)))) = subst (λ (m : ℕ). FoundDigits m name id) (sym e) (λ place is. digits_by stands.Folder place (length (decimal 40000)) is (let d = ap (λ (l : List ℕ). length l) decimal-40000 in omega (arith, d)))
found_by mode name id (inr (inr (inr (inr e)))) = subst (λ (m : ℕ). FoundDigits m name id) (sym e) (λ place is. absurd cc)

pub found_digits : (e : DirectoryEntry) → IsEntry e → (place : Member) → found_of e ≡ Some place → mode_digits place ≤ length (decimal e.mode)
found_digits e is = found_by e.mode e.name e.id is.mode

final_by : (mode : ℕ) (name id : List ℕ) → IsMode mode → (let e : DirectoryEntry = record { mode = mode; name = name; id = id } in mode_digits (final_of e) ≤ length (decimal mode))
final_by mode name id (inl e) = subst (λ (m : ℕ). let d : DirectoryEntry = record { mode = m; name = name; id = id } in mode_digits (final_of d) ≤ length (decimal m)) (sym e) (let d = ap (λ (l : List ℕ). length l) decimal-100644 in omega (arith, d))
final_by mode name id (inr (inl e)) = subst (λ (m : ℕ). let d : DirectoryEntry = record { mode = m; name = name; id = id } in mode_digits (final_of d) ≤ length (decimal m)) (sym e) (let d = ap (λ (l : List ℕ). length l) decimal-100755 in omega (arith, d))
final_by mode name id (inr (inr (inl e))) = subst (λ (m : ℕ). let d : DirectoryEntry = record { mode = m; name = name; id = id } in mode_digits (final_of d) ≤ length (decimal m)) (sym e) (let d = ap (λ (l : List ℕ). length l) decimal-120000 in omega (arith, d))
final_by mode name id (inr (inr (inr (inl e)))) = subst (λ (m : ℕ). let d : DirectoryEntry = record { mode = m; name = name; id = id } in mode_digits (final_of d) ≤ length (decimal m)) (sym e) (let d = ap (λ (l : List ℕ). length l) decimal-40000 in omega (arith, d))
final_by mode name id (inr (inr (inr (inr e)))) = subst (λ (m : ℕ). let d : DirectoryEntry = record { mode = m; name = name; id = id } in mode_digits (final_of d) ≤ length (decimal m)) (sym e) (let d = ap (λ (l : List ℕ). length l) decimal-160000 in omega (arith, d))

pub final_digits : (e : DirectoryEntry) → IsEntry e → (place : Member) → Some (final_of e) ≡ Some place → mode_digits place ≤ length (decimal e.mode)
final_digits e is place same = digits_by (final_of e) place (length (decimal e.mode)) same (final_by e.mode e.name e.id is.mode)
