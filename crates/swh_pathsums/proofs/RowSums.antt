-- What rows sum up to: together, behind a folder's name, and the length of their texts.
use Rattle.std.proofs.Common.{◌≡◌, inl, inr, ℕ, ◌+◌, ◌*◌, ◌^◌, ◌<◌, Bool, true, false, ◌||◌, cond, List, [], ◌∷◌, ◌++◌, length, map, min, refl, sym, ap, ◌∙◌, subst, arith, length-append}
use Rattle.std.specs.List.{flat_map, list_any}
use Rattle.std.proofs.lemmas.Grind.{flat_map-append}
use Rattle.std.proofs.lemmas.List.Folds.{list_any-append}
use Rattle.swh_base.specs.Directory.{DirectoryEntry}
use Rattle.swh_fastwrite.specs.Quoted.{is_quoted_byte, quoted_byte, quoted_path}
use Rattle.swh_pathwalk.specs.Tree.{Row}
use Rattle.swh_pathwalk.specs.Weight.{total}
use Rattle.swh_pathsums.specs.declared.weight.Weight.{Weight}
use Rattle.swh_pathsums.specs.declared.tally.Tally.{Tally}
use Rattle.swh_pathsums.specs.declared.tally.Spelling.{Spelling}
use Rattle.swh_pathsums.specs.Lengths.{IsUpTo, path_length, row_length, rows_length}
use Rattle.swh_pathsums.specs.Tallies.{one_if, where_written, path_of, quoted_of, bytes_of, spelled_of, Tallies, total_of, IsSpelling, row_behind}
use Rattle.swh_pathsums.proofs.UpTo.{up_plus, up_times, up_min}

total_both : (f : Row → ℕ) (xs ys : List Row) → total f (xs ++ ys) ≡ total f xs + total f ys
total_both f [] ys = omega arith
total_both f (x ∷ xs) ys = let more = total_both f xs ys in omega (arith, more)

total_one : (f : Row → ℕ) (row : Row) → total f (row ∷ []) ≡ f row
total_one f row = omega arith

-- ---- paths that need no quotes are as they are

not_escaped : (c : ℕ) → is_quoted_byte c ≡ false → quoted_byte c ≡ c ∷ []
not_escaped c none = grind arith

no_left : (a b : Bool) → (a || b) ≡ false → a ≡ false
no_left true b e = e
no_left false b e = refl

no_right : (a b : Bool) → (a || b) ≡ false → b ≡ false
no_right true b e = absurd (let never : true ≡ false = e in cc)
no_right false b e = e

pub plain_bytes : (path : List ℕ) → list_any is_quoted_byte path ≡ false → flat_map quoted_byte path ≡ path
plain_bytes [] none = refl
plain_bytes (c ∷ path) none =
    ap (λ (l : List ℕ). l ++ flat_map quoted_byte path) (not_escaped c (no_left (is_quoted_byte c) (list_any is_quoted_byte path) none))
    ∙ ap (λ (l : List ℕ). c ∷ l) (plain_bytes path (no_right (is_quoted_byte c) (list_any is_quoted_byte path) none))

quoted_length : (path : List ℕ) (b : Bool) → list_any is_quoted_byte path ≡ b → length (cond b (34 ∷ (flat_map quoted_byte path ++ 34 ∷ [])) path) ≡ length (flat_map quoted_byte path) + one_if b * 2
quoted_length path true is = let two = length-append (flat_map quoted_byte path) (34 ∷ []) in omega (arith, two)
quoted_length path false is = let same = ap (λ (l : List ℕ). length l) (plain_bytes path is) in omega (arith, same)

path_lengths : (w : Bool) (path : List ℕ) → path_length w path ≡ where_written w (length (flat_map quoted_byte path)) + where_written w (one_if (list_any is_quoted_byte path)) * 2
path_lengths true path = quoted_length path (list_any is_quoted_byte path) refl
path_lengths false path = refl

module _ (weigh : DirectoryEntry → Weight) where
  lengths_are : (rows : List Row) → rows_length weigh rows ≡ (total (bytes_of weigh) rows + total (spelled_of weigh) rows) + total (quoted_of weigh) rows * 2
  lengths_are [] = refl
  lengths_are (row ∷ rows) =
      let first = path_lengths (weigh row.entry).with_path row.path in
      let rest = lengths_are rows in
      omega (arith, first, rest)

  -- the length of the texts, as far as a number goes
  pub length_is : (rows : List Row) (t : Tally) → Tallies weigh rows t → IsUpTo (rows_length weigh rows) (total_of t)
  length_is rows t is =
      let bytes = total (bytes_of weigh) rows in
      let spelled = total (spelled_of weigh) rows in
      let quoted = total (quoted_of weigh) rows in
      subst (λ (n : ℕ). IsUpTo n (total_of t)) (sym (lengths_are rows))
      (up_plus (bytes + spelled) (quoted * 2) (min (t.bytes + t.spelled) 18446744073709551615) (min (t.quoted * 2) 18446744073709551615) (total_of t) refl
      (up_plus bytes spelled t.bytes t.spelled (min (t.bytes + t.spelled) 18446744073709551615) refl is.byte_count is.spelled_count)
      (up_times quoted 2 t.quoted 2 (min (t.quoted * 2) 18446744073709551615) refl is.quoted_count (inl refl)))

  -- ---- rows and further rows

  pub tallies_both : (xs ys : List Row) (s t u : Tally) → Tallies weigh xs s → Tallies weigh ys t
      → ((m n : ℕ) → IsUpTo m s.paths → IsUpTo n t.paths → IsUpTo (m + n) u.paths)
      → ((m n : ℕ) → IsUpTo m s.quoted → IsUpTo n t.quoted → IsUpTo (m + n) u.quoted)
      → ((m n : ℕ) → IsUpTo m s.bytes → IsUpTo n t.bytes → IsUpTo (m + n) u.bytes)
      → ((m n : ℕ) → IsUpTo m s.spelled → IsUpTo n t.spelled → IsUpTo (m + n) u.spelled)
      → Tallies weigh (xs ++ ys) u
  tallies_both xs ys s t u first further paths quoted bytes spelled = record {
    path_count = by (path_of weigh) s.paths t.paths u.paths paths first.path_count further.path_count;
    quoted_count = by (quoted_of weigh) s.quoted t.quoted u.quoted quoted first.quoted_count further.quoted_count;
    byte_count = by (bytes_of weigh) s.bytes t.bytes u.bytes bytes first.byte_count further.byte_count;
    spelled_count = by (spelled_of weigh) s.spelled t.spelled u.spelled spelled first.spelled_count further.spelled_count;
  }
    where
      by : (f : Row → ℕ) (a b c : ℕ) → ((m n : ℕ) → IsUpTo m a → IsUpTo n b → IsUpTo (m + n) c) → IsUpTo (total f xs) a → IsUpTo (total f ys) b → IsUpTo (total f (xs ++ ys)) c
      by f a b c sums x y = subst (λ (n : ℕ). IsUpTo n c) (sym (total_both f xs ys)) (sums (total f xs) (total f ys) x y)

  -- ---- one row

  pub tallies_one : (row : Row) (w : Weight) (s : Spelling) (t : Tally) → weigh row.entry ≡ w → IsSpelling row.path s
      → IsUpTo (where_written w.with_path 1) t.paths
      → IsUpTo (where_written w.with_path (one_if (list_any is_quoted_byte row.path))) t.quoted
      → t.bytes ≡ w.bytes
      → IsUpTo (where_written w.with_path (length (flat_map quoted_byte row.path))) t.spelled
      → Tallies weigh (row ∷ []) t
  tallies_one row w s t is spelling paths quoted bytes spelled = record {
    path_count = by (path_of weigh) (where_written w.with_path 1) t.paths (ap (λ (x : Weight). where_written x.with_path 1) is) paths;
    quoted_count =
        by (quoted_of weigh) (where_written w.with_path (one_if (list_any is_quoted_byte row.path))) t.quoted
        (ap (λ (x : Weight). where_written x.with_path (one_if (list_any is_quoted_byte row.path))) is) quoted;
    byte_count = by (bytes_of weigh) w.bytes t.bytes (ap (λ (x : Weight). x.bytes) is) (inl bytes);
    spelled_count =
        by (spelled_of weigh) (where_written w.with_path (length (flat_map quoted_byte row.path))) t.spelled
        (ap (λ (x : Weight). where_written x.with_path (length (flat_map quoted_byte row.path))) is) spelled;
  }
    where
      by : (f : Row → ℕ) (n a : ℕ) → f row ≡ n → IsUpTo n a → IsUpTo (total f (row ∷ [])) a
      by f n a same up = subst (λ (k : ℕ). IsUpTo k a) (sym (total_one f row ∙ same)) up

  -- ---- rows behind a folder's name

  module _ (front : List ℕ) where
    spelled_at : (w : Bool) (path : List ℕ) → where_written w (length (flat_map quoted_byte (front ++ path))) ≡ where_written w 1 * length (flat_map quoted_byte front) + where_written w (length (flat_map quoted_byte path))
    spelled_at true path = let both = ap (λ (l : List ℕ). length l) (flat_map-append quoted_byte front path) ∙ length-append (flat_map quoted_byte front) (flat_map quoted_byte path) in omega (arith, both)
    spelled_at false path = omega arith

    paths_behind : (rows : List Row) → total (path_of weigh) (map (row_behind front) rows) ≡ total (path_of weigh) rows
    paths_behind [] = refl
    paths_behind (row ∷ rows) = ap (λ (n : ℕ). path_of weigh row + n) (paths_behind rows)

    bytes_behind : (rows : List Row) → total (bytes_of weigh) (map (row_behind front) rows) ≡ total (bytes_of weigh) rows
    bytes_behind [] = refl
    bytes_behind (row ∷ rows) = ap (λ (n : ℕ). bytes_of weigh row + n) (bytes_behind rows)

    joined : (w l x f p s rest : ℕ) → f ≡ w * l + x → rest ≡ p * l + s → f + rest ≡ (w + p) * l + (x + s)
    joined w l x f p s rest a b = grind (arith, a, b)

    spelled_behind : (rows : List Row) → total (spelled_of weigh) (map (row_behind front) rows) ≡ total (path_of weigh) rows * length (flat_map quoted_byte front) + total (spelled_of weigh) rows
    spelled_behind [] = omega arith
    spelled_behind (row ∷ rows) =
        let first = spelled_at (weigh row.entry).with_path row.path in
        let rest = spelled_behind rows in
        joined (path_of weigh row) (length (flat_map quoted_byte front)) (spelled_of weigh row) (spelled_of weigh (row_behind front row)) (total (path_of weigh) rows) (total (spelled_of weigh) rows) (total (spelled_of weigh) (map (row_behind front) rows)) first rest

    quoted_row : (w q : Bool) (path : List ℕ) → list_any is_quoted_byte front ≡ q → where_written w (one_if (list_any is_quoted_byte (front ++ path))) ≡ cond q (where_written w 1) (where_written w (one_if (list_any is_quoted_byte path)))
    quoted_row w q path is = ap (λ (b : Bool). where_written w (one_if b)) (list_any-append is_quoted_byte front path ∙ ap (λ (b : Bool). b || list_any is_quoted_byte path) is) ∙ by q
      where
        by : (q : Bool) → where_written w (one_if (q || list_any is_quoted_byte path)) ≡ cond q (where_written w 1) (where_written w (one_if (list_any is_quoted_byte path)))
        by true = refl
        by false = refl

    quoted_behind : (q : Bool) (rows : List Row) → list_any is_quoted_byte front ≡ q → total (quoted_of weigh) (map (row_behind front) rows) ≡ cond q (total (path_of weigh) rows) (total (quoted_of weigh) rows)
    quoted_behind true [] is = refl
    quoted_behind false [] is = refl
    quoted_behind true (row ∷ rows) is =
        let first = quoted_row (weigh row.entry).with_path true row.path is in
        let rest = quoted_behind true rows is in
        omega (arith, first, rest)
    quoted_behind false (row ∷ rows) is =
        let first = quoted_row (weigh row.entry).with_path false row.path is in
        let rest = quoted_behind false rows is in
        omega (arith, first, rest)

  name_length : (name : List ℕ) → length (flat_map quoted_byte (name ++ 47 ∷ [])) ≡ length (flat_map quoted_byte name) + 1
  name_length name = ap (λ (l : List ℕ). length l) (flat_map-append quoted_byte name (47 ∷ [])) ∙ length-append (flat_map quoted_byte name) (47 ∷ [])

  name_quoted : (name : List ℕ) (q : Bool) → q ≡ list_any is_quoted_byte name → list_any is_quoted_byte (name ++ 47 ∷ []) ≡ q
  name_quoted name q is = list_any-append is_quoted_byte name (47 ∷ []) ∙ ap (λ (b : Bool). b || false) (sym is) ∙ same q
    where
      same : (b : Bool) → (b || false) ≡ b
      same true = refl
      same false = refl

  pub tallies_behind : (name : List ℕ) (rows : List Row) (s : Spelling) (t u : Tally) → IsSpelling name s → Tallies weigh rows t
      → u.paths ≡ t.paths → u.bytes ≡ t.bytes
      → u.quoted ≡ cond s.quoted t.paths t.quoted
      → ((m n k : ℕ) → IsUpTo m t.paths → IsUpTo n s.bytes → IsUpTo k t.spelled → IsUpTo (m * (n + 1) + k) u.spelled)
      → Tallies weigh (map (row_behind (name ++ 47 ∷ [])) rows) u
  tallies_behind name rows s t u spelling is paths bytes quoted spelled =
      let front = name ++ 47 ∷ [] in
      record {
        path_count = at (paths_behind front rows) (sym paths) is.path_count;
        byte_count = at (bytes_behind front rows) (sym bytes) is.byte_count;
        quoted_count = at (quoted_behind front s.quoted rows (name_quoted name s.quoted spelling.is_quoted)) (sym quoted) (by_case s.quoted);
        spelled_count =
            at (spelled_behind front rows ∙ ap (λ (n : ℕ). total (path_of weigh) rows * n + total (spelled_of weigh) rows) (name_length name)) refl
            (spelled (total (path_of weigh) rows) (length (flat_map quoted_byte name)) (total (spelled_of weigh) rows) is.path_count spelling.byte_count is.spelled_count);
      }
    where
      at : {m n a b : ℕ} → m ≡ n → a ≡ b → IsUpTo n a → IsUpTo m b
      at {m} {n} {a} {b} left right up = subst (λ (k : ℕ). IsUpTo k b) (sym left) (subst (λ (k : ℕ). IsUpTo n k) right up)

      by_case : (b : Bool) → IsUpTo (cond b (total (path_of weigh) rows) (total (quoted_of weigh) rows)) (cond b t.paths t.quoted)
      by_case true = is.path_count
      by_case false = is.quoted_count
