-- How long all that is under a directory is, by what its rows weigh.
use Rattle.std.proofs.Common.{◌≡◌, ◌⊎◌, inl, inr, ℕ, ◌+◌, ◌<◌, ◌^◌, Bool, true, false, Option, Some, None, List, [], ◌∷◌, ◌++◌, length, refl, sym, ap, ◌∙◌, subst, arith}
use Rattle.std.specs.Prelude.{◌↔◌, IsTrue, ◌==◌, if◌then◌else◌, codes}
use Rattle.hex.specs.Hex.{encode_lower, lower_digits}
use Rattle.hex.proofs.HexLemmas.{length-encode_with}
use Rattle.std.proofs.lemmas.List.{length-append}
use Rattle.swh_base.specs.declared.name.Name.{Name}
use Rattle.swh_base.specs.Directory.{DirectoryEntry}
use Rattle.swh_model.specs.Archive.{Bodies}
use Rattle.swh_fastwrite.specs.Quoted.{quoted_path}
use Rattle.swh_listing.specs.declared.listed.Mode.{Mode}
use Rattle.swh_listing.specs.declared.listed.Mode.TheVariants.{Executable, Link, Project}
use Rattle.swh_listing.specs.Line.{mode_text}
use Rattle.swh_pathwalk.specs.Tree.{Row, IsPathWalk}
use Rattle.swh_pathsums.specs.Lengths.{IsUpTo, path_length, rows_length}
use Rattle.swh_pathwalk.proofs.Trees.{one_walk}
use Rattle.swh_dircook.specs.Listing.{line_or_none, with_path, mode_of, listing_text}
use Rattle.swh_dircook.specs.Rules.{files_length, IsLongFolder}
use Rattle.swh_dircook.specs.Weights.{row_weight, file_weight, listed_weight, mode_weight, line_weight}
use Rattle.swh_dircook.proofs.Lines.{line_of, listing_cut}

pub rows_are : (rows : List Row) → rows_length row_weight rows ≡ length rows
rows_are [] = refl
rows_are (row ∷ rows) = let rest = rows_are rows in omega (arith, rest)

pub files_are : (bodies : Bodies) (rows : List Row) → rows_length (file_weight bodies) rows ≡ files_length bodies rows
files_are bodies [] = refl
files_are bodies (row ∷ rows) = let rest = files_are bodies rows in omega (arith, rest)

line_is : (path : List ℕ) (mode : Option Mode) → (mode_weight mode).bytes + path_length (mode_weight mode).with_path path ≡ length (line_or_none (with_path path mode))
line_is path None = refl
line_is path (Some mode) =
    let whole = length-append (mode_text mode) (quoted_path path ++ 10 ∷ []) in
    let end = length-append (quoted_path path) (10 ∷ []) in
    omega (arith, whole, end)

pub lines_are : (rows : List Row) → rows_length line_weight rows ≡ length (listing_text rows)
lines_are [] = refl
lines_are (row ∷ rows) =
    let rest = lines_are rows in
    let own = line_is row.path (mode_of row.entry) in
    let cut = ap (λ (l : List ℕ). length l) (listing_cut [] row rows) in
    let both = length-append (line_of row) (listing_text rows) in
    omega (arith, rest, own, cut, both)

-- whether what was found is above the limit is whether the length is
pub above_is : (exact found : ℕ) → IsUpTo exact found → (2 ^ 32 < found) ↔ (2 ^ 32 < exact)
above_is exact found (inl is) = (λ over. omega (arith, is, over), λ over. omega (arith, is, over))
above_is exact found (inr both) = (λ _. both.1, λ _. both.0)

-- the same of a test
pub test_is : (above : Bool) (exact found : ℕ) → IsTrue above ↔ (2 ^ 32 < found) → IsUpTo exact found → IsTrue above ↔ (2 ^ 32 < exact)
test_is above exact found test is = let same = above_is exact found is in (λ t. same.0 (test.0 t), λ over. test.1 (same.1 over))

module _ (bodies : Bodies) (root : Name) (rows : List Row) (walk : IsPathWalk bodies root rows) where
  pub many_rows : 2 ^ 32 < rows_length row_weight rows → IsLongFolder bodies root
  many_rows over = record { rows = rows; walk = walk; long = inr (inr (let are = rows_are rows in omega (arith, over, are))) }

  pub large_files : 2 ^ 32 < rows_length (file_weight bodies) rows → IsLongFolder bodies root
  large_files over = record { rows = rows; walk = walk; long = inl (let are = files_are bodies rows in omega (arith, over, are)) }

  pub long_listing : 2 ^ 32 < rows_length line_weight rows → IsLongFolder bodies root
  long_listing over = record { rows = rows; walk = walk; long = inr (inl (let are = lines_are rows in omega (arith, over, are))) }

  -- where it is not long by its rows and not by its files, it is by its listing
  pub only_listing : IsLongFolder bodies root → (2 ^ 32 < rows_length row_weight rows → ⊥) → (2 ^ 32 < rows_length (file_weight bodies) rows → ⊥) → 2 ^ 32 < rows_length line_weight rows
  only_listing long few small =
      let same = one_walk bodies root long.rows rows long.walk walk in
      let of_rows = rows_are rows in
      let of_files = files_are bodies rows in
      let of_lines = lines_are rows in
      let rows_same = ap (λ (rs : List Row). length rs) same in
      let files_same = ap (files_length bodies) same in
      let lines_same = ap (λ (rs : List Row). length (listing_text rs)) same in
      elim long.long [
        | inl over ↦ absurd (small (omega (arith, over, of_files, files_same)))
        | inr other ↦
            elim other [
              | inl over ↦ omega (arith, over, of_lines, lines_same)
              | inr over ↦ absurd (few (omega (arith, over, of_rows, rows_same)))
            ]
      ]

-- ---- the line of a revision of another project

abbrev mode_by : List ℕ → ℕ → Option Mode
mode_by id mode =
    if mode == 100755 then Some Executable else
    if mode == 120000 then Some Link else
    if mode == 160000 then Some (Project id) else None

project_is : (e : DirectoryEntry) → e.mode ≡ 160000 → mode_of e ≡ Some (Project e.id)
project_is e is = ap (mode_by e.id) is

pub project_length : (id : List ℕ) → length id ≡ 20 → 49 ≡ length (mode_text (Project id)) + 1
project_length id twenty =
    let whole = length-append (codes "160000 ") (encode_lower id ++ codes " ") in
    let rest = length-append (encode_lower id) (codes " ") in
    let digits = length-encode_with lower_digits id in
    omega (arith, whole, rest, digits, twenty)

pub project_weight : (e : DirectoryEntry) → e.mode ≡ 160000 → listed_weight (length (mode_text (Project e.id)) + 1) ≡ line_weight e
project_weight e is = ap mode_weight (sym (project_is e is))
