-- How long the lines of the files of a tree are.
use Rattle.std.proofs.Common.{◌≡◌, ℕ, ◌+◌, ◌<◌, ◌≤◌, ◌^◌, ◌==◌, Bool, true, false, cond, List, [], ◌∷◌, ◌++◌, length, refl, sym, ap, ◌∙◌, subst, arith, length-append, codes}
use Rattle.std.specs.Prelude.{not, decimal}
use Rattle.std.proofs.lemmas.Bool.{eqb-true}
use Rattle.std.proofs.lemmas.List.Concat.{flat_map-cons}
use Rattle.std.proofs.lemmas.Fmt.{length-decimal-le}
use Rattle.hex.specs.Hex.{encode_lower, lower_digits}
use Rattle.hex.proofs.HexLemmas.{length-encode_with}
use Rattle.swh_base.specs.declared.name.Name.{Name}
use Rattle.swh_base.specs.Directory.{DirectoryEntry}
use Rattle.swh_fastwrite.specs.Quoted.{quoted_path}
use Rattle.swh_fastwrite.specs.Text.{file_line, project_line}
use Rattle.swh_marks.specs.Marks.{mark_of}
use Rattle.swh_pathwalk.specs.Tree.{Row}
use Rattle.swh_pathsums.specs.Lengths.{path_length, row_length, rows_length}
use Rattle.swh_fastcook.specs.Stream.{content_name, file_text, files_text}
use Rattle.swh_fastcook.specs.Weighed.{file_weight}

path_end : (path : List ℕ) → length (32 ∷ (quoted_path path ++ 10 ∷ [])) ≡ 2 + length (quoted_path path)
path_end path = let two = length-append (quoted_path path) (10 ∷ []) in omega (arith, two)

file_is : (mode mark : ℕ) (path : List ℕ) → length (file_line mode mark path) ≡ (6 + length (decimal mode) + length (decimal mark)) + length (quoted_path path)
file_is mode mark path =
    let end = path_end path in
    let marked = length-append (decimal mark) (32 ∷ (quoted_path path ++ 10 ∷ [])) in
    let whole = length-append (decimal mode) (codes " :" ++ (decimal mark ++ 32 ∷ (quoted_path path ++ 10 ∷ []))) in
    omega (arith, end, marked, whole)

project_is : (id path : List ℕ) → length (project_line id path) ≡ (11 + length (encode_lower id)) + length (quoted_path path)
project_is id path =
    let end = path_end path in
    let whole = length-append (encode_lower id) (32 ∷ (quoted_path path ++ 10 ∷ [])) in
    omega (arith, end, whole)

file_path : (mode mark : ℕ) (path : List ℕ) → length (file_line mode mark path) ≡ length (file_line mode mark []) + length (quoted_path path)
file_path mode mark path =
    let all = file_is mode mark path in
    let none = file_is mode mark [] in
    omega (arith, all, none)

project_path : (id path : List ℕ) → length (project_line id path) ≡ length (project_line id []) + length (quoted_path path)
project_path id path =
    let all = project_is id path in
    let none = project_is id [] in
    omega (arith, all, none)

row_by : (a b : Bool) (p f : List ℕ → List ℕ) (path : List ℕ) → (length (p path) ≡ length (p []) + length (quoted_path path)) → (length (f path) ≡ length (f []) + length (quoted_path path))
    → length (cond a [] (cond b (p path) (f path))) ≡ length (cond a [] (cond b (p []) (f []))) + path_length (not a) path
row_by true b p f path project file = refl
row_by false true p f path project file = project
row_by false false p f path project file = file

module _ (order : List Name) where
  abbrev mark : Row → ℕ
  mark row = mark_of order (content_name row.entry.id)

  row_is : (row : Row) → length (file_text order row) ≡ row_length (file_weight order) row
  row_is row =
      row_by (row.entry.mode == 40000) (row.entry.mode == 160000) (project_line row.entry.id) (file_line row.entry.mode (mark row)) row.path (project_path row.entry.id row.path) (file_path row.entry.mode (mark row) row.path)

  pub rows_are : (rows : List Row) → length (files_text order rows) ≡ rows_length (file_weight order) rows
  rows_are [] = refl
  rows_are (row ∷ rows) =
      let first = row_is row in
      let rest = rows_are rows in
      let both = ap (λ (l : List ℕ). length l) (flat_map-cons (file_text order) row rows) ∙ length-append (file_text order row) (files_text order rows) in
      omega (arith, first, rest, both)

-- ---- the bytes of a line without its path

bytes_by : (a b : Bool) (p f : List ℕ) (m n : ℕ) → length p ≡ m → length f ≡ n → length (cond a [] (cond b p f)) ≡ cond a 0 (cond b m n)
bytes_by true b p f m n project file = refl
bytes_by false true p f m n project file = project
bytes_by false false p f m n project file = file

no_mode : (mode n : ℕ) → (mode ≡ n → ⊥) → (mode == n) ≡ false
no_mode mode n other = by (mode == n) refl
  where
    by : (b : Bool) → (mode == n) ≡ b → (mode == n) ≡ false
    by true e = absurd (other (eqb-true mode n e))
    by false e = e

module _ (order : List Name) (e : DirectoryEntry) where
  line_by : (a b : Bool) (m n : ℕ) → (e.mode == 40000) ≡ a → (e.mode == 160000) ≡ b → length (project_line e.id []) ≡ m → length (file_line e.mode (mark_of order (content_name e.id)) []) ≡ n → (file_weight order e).bytes ≡ cond a 0 (cond b m n)
  line_by a b m n folder project p f =
      bytes_by (e.mode == 40000) (e.mode == 160000) (project_line e.id []) (file_line e.mode (mark_of order (content_name e.id)) []) m n p f ∙ ap (λ (x : Bool). cond x 0 (cond (e.mode == 160000) m n)) folder ∙ ap (λ (x : Bool). cond a 0 (cond x m n)) project

  project_count : length (project_line e.id []) ≡ 11 + length (encode_lower e.id)
  project_count = let all = project_is e.id [] in omega (arith, all)

  file_count : length (file_line e.mode (mark_of order (content_name e.id)) []) ≡ 6 + length (decimal e.mode) + length (decimal (mark_of order (content_name e.id)))
  file_count = let all = file_is e.mode (mark_of order (content_name e.id)) [] in omega (arith, all)

  pub line_folder : e.mode ≡ 40000 → 0 ≡ (file_weight order e).bytes
  line_folder folder = sym (line_by true (e.mode == 160000) (length (project_line e.id [])) (length (file_line e.mode (mark_of order (content_name e.id)) [])) (ap (λ (m : ℕ). m == 40000) folder) refl refl refl)

  pub line_project : (n : ℕ) → (e.mode ≡ 40000 → ⊥) → e.mode ≡ 160000 → n ≡ 11 + length (encode_lower e.id) → n ≡ (file_weight order e).bytes
  line_project n folder project is =
      is ∙ sym (line_by false true (11 + length (encode_lower e.id)) (length (file_line e.mode (mark_of order (content_name e.id)) [])) (no_mode e.mode 40000 folder) (ap (λ (m : ℕ). m == 160000) project) project_count refl)

  pub line_file : (n mark : ℕ) → (e.mode ≡ 40000 → ⊥) → (e.mode ≡ 160000 → ⊥) → mark ≡ mark_of order (content_name e.id) → n ≡ 6 + length (decimal e.mode) + length (decimal mark) → n ≡ (file_weight order e).bytes
  line_file n mark folder project marked is =
      is ∙ ap (λ (m : ℕ). 6 + length (decimal e.mode) + length (decimal m)) marked
      ∙ sym (line_by false false (length (project_line e.id [])) (6 + length (decimal e.mode) + length (decimal (mark_of order (content_name e.id)))) (no_mode e.mode 40000 folder) (no_mode e.mode 160000 project) refl file_count)

-- ---- few digits

pub digits_few : (n : ℕ) → n < 2 ^ 64 → length (decimal n) ≤ 20
digits_few n small = length-decimal-le 20 n (omega arith) (omega (arith, small)) small

pub id_digits : (id : List ℕ) → length id ≡ 20 → 51 ≡ 11 + length (encode_lower id)
id_digits id twenty = let two = length-encode_with lower_digits id in omega (arith, two, twenty)
