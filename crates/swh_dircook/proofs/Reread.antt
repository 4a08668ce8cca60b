-- That a listing is read as what it says.
use Rattle.std.proofs.Common.{◌≡◌, ◌⊎◌, inl, inr, ℕ, zero, suc, ◌+◌, ◌*◌, ◌/◌, ◌%◌, ◌<◌, ◌≤◌, ◌==◌, nat_le, nat_lt, Bool, true, false, ◌||◌, ◌&&◌, cond, List, [], ◌∷◌, ◌++◌, length, refl, sym, ap, ◌∙◌, subst, arith, codes, append_assoc}
use Rattle.std.specs.Prelude.{Contains}
use Rattle.std.specs.List.{flat_map, list_any, list_all, AllByRecursion, AllPass}
use Rattle.std.proofs.lemmas.List.{length-append}
use Rattle.std.proofs.lemmas.Bool.{eqb-true, leb-true, leb-false, or_parts as none_true}
use borrow.Author.Tests.{ltb-true}
use Rattle.hex.specs.Hex.{encode_lower, lower_digits}
use Rattle.hex.proofs.HexLemmas.{length-encode_with}
use Rattle.swh_base.specs.Name.{is_lower_hex_digit}
use Rattle.swh_base.specs.Limits.{line_limit, path_limit}
use Rattle.swh_base.proofs.Ids.{IsIdText-encode}
use Rattle.swh_fastlex.specs.Path.{Spells, PassesPath}
use Rattle.swh_fastlex.proofs.Runs.{whole_run}
use Rattle.swh_fastwrite.specs.Quoted.{is_quoted_byte, quoted_byte, quoted_path}
use Rattle.swh_fastwrite.proofs.Quotes.{names_again}
use Rattle.swh_listing.specs.declared.limits.TheConstants.{LISTING_LIMIT}
use Rattle.swh_listing.specs.declared.listed.Listed.{Listed}
use Rattle.swh_listing.specs.declared.listed.Mode.{Mode}
use Rattle.swh_listing.specs.declared.listed.Mode.TheVariants.{Executable, Link, Project}
use Rattle.swh_listing.specs.Line.{mode_text, HasId, BeginsMode, SaysListed, PassesPathIn}
use Rattle.swh_listing.specs.Listing.{TakesLine, behind, Reads, IsListing}
use Rattle.swh_listing.proofs.Modes.{one_mode}
use Rattle.swh_dircook.specs.Listing.{listed_line, lines_text, MayBeListed}

-- ---- no LF stands in a line before its end

abbrev Shown : ℕ → Type 0
Shown c = 31 < c

shown_both : (xs ys : List ℕ) → AllByRecursion Shown xs → AllByRecursion Shown ys → AllByRecursion Shown (xs ++ ys)
shown_both [] ys a b = b
shown_both (x ∷ xs) ys (h, a) b = (h, shown_both xs ys a b)

no_feed : (xs : List ℕ) → AllByRecursion Shown xs → Contains xs 10 → ⊥
no_feed [] h k = let l = k.1 in absurd (omega (arith, l))
no_feed (x ∷ xs) (h, hs) (zero, l, e) = let same : x ≡ 10 = e in omega (arith, same, h)
no_feed (x ∷ xs) (h, hs) (suc i, l, e) = no_feed xs hs (i, omega (arith, l), e)

both_true : (a b : Bool) → (a && b) ≡ true → (a ≡ true) × (b ≡ true)
both_true true b e = (refl, e)
both_true false b e = absurd cc

either_true : (a b : Bool) → (a || b) ≡ true → (a ≡ true) ⊎ (b ≡ true)
either_true true b e = inl refl
either_true false b e = inr e

shown_by_test : (xs : List ℕ) → list_all (λ c. nat_lt 31 c) xs ≡ true → AllByRecursion Shown xs
shown_by_test [] e = tt
shown_by_test (x ∷ xs) e = let t = both_true (nat_lt 31 x) (list_all (λ c. nat_lt 31 c) xs) e in (ltb-true 31 x t.0, shown_by_test xs t.1)

digit_shown : (c : ℕ) → is_lower_hex_digit c ≡ true → Shown c
digit_shown c e =
    elim (either_true (nat_le 48 c && nat_le c 57) (nat_le 97 c && nat_le c 102) e) [
      | inl d ↦ let le = leb-true 48 c (both_true (nat_le 48 c) (nat_le c 57) d).0 in omega (arith, le)
      | inr d ↦ let le = leb-true 97 c (both_true (nat_le 97 c) (nat_le c 102) d).0 in omega (arith, le)
    ]

digits_shown : (xs : List ℕ) → AllPass is_lower_hex_digit xs → AllByRecursion Shown xs
digits_shown [] h = tt
digits_shown (x ∷ xs) h = (digit_shown x (h zero 0 (omega arith)), digits_shown xs (λ j d m. h (suc j) d (omega (arith, m))))

mode_shown : (mode : Mode) → HasId mode → AllByRecursion Shown (mode_text mode)
mode_shown Executable id = shown_by_test (codes "100755 ") refl
mode_shown Link id = shown_by_test (codes "120000 ") refl
mode_shown (Project id) is =
    shown_both (codes "160000 ") (encode_lower id ++ codes " ") (shown_by_test (codes "160000 ") refl)
    (shown_both (encode_lower id) (codes " ") (digits_shown (encode_lower id) (IsIdText-encode id is).1) (shown_by_test (codes " ") refl))

not_quoted : (c : ℕ) → is_quoted_byte c ≡ false → Shown c
not_quoted c e =
    leb-false c 31 (none_true (nat_le c 31) (c == 34) (none_true (nat_le c 31 || c == 34) (c == 92) (none_true (nat_le c 31 || c == 34 || c == 92) (nat_le 127 c) e).0).0).0

quoted_by : (b d : Bool) (c : ℕ) → (c == 34 || c == 92) ≡ b → is_quoted_byte c ≡ d → AllByRecursion Shown (cond b (92 ∷ c ∷ []) (cond d (92 ∷ (48 + c / 8 / 8) ∷ (48 + c / 8 % 8) ∷ (48 + c % 8) ∷ []) (c ∷ [])))
quoted_by true d c escaped quoted =
    let above : Shown c = elim (either_true (c == 34) (c == 92) escaped) [
      | inl is ↦ let same = eqb-true c 34 is in omega (arith, same)
      | inr is ↦ let same = eqb-true c 92 is in omega (arith, same)
    ] in (omega arith, (above, tt))
quoted_by false true c escaped quoted = (omega arith, (omega arith, (omega arith, (omega arith, tt))))
quoted_by false false c escaped quoted = (not_quoted c quoted, tt)

quoted_shown : (path : List ℕ) → AllByRecursion Shown (flat_map quoted_byte path)
quoted_shown [] = tt
quoted_shown (c ∷ path) = shown_both (quoted_byte c) (flat_map quoted_byte path) (quoted_by (c == 34 || c == 92) (is_quoted_byte c) c refl refl) (quoted_shown path)

plain_shown : (path : List ℕ) → list_any is_quoted_byte path ≡ false → AllByRecursion Shown path
plain_shown [] e = tt
plain_shown (c ∷ path) e = let n = none_true (is_quoted_byte c) (list_any is_quoted_byte path) e in (not_quoted c n.0, plain_shown path n.1)

path_by : (path : List ℕ) (b : Bool) → list_any is_quoted_byte path ≡ b → AllByRecursion Shown (cond b (34 ∷ (flat_map quoted_byte path ++ 34 ∷ [])) path)
path_by path true e = (omega arith, shown_both (flat_map quoted_byte path) (34 ∷ []) (quoted_shown path) (omega arith, tt))
path_by path false e = plain_shown path e

path_shown : (path : List ℕ) → AllByRecursion Shown (quoted_path path)
path_shown path = path_by path (list_any is_quoted_byte path) refl

-- ---- how long a line is

byte_length : (b d : Bool) (c : ℕ) → length (cond b (92 ∷ c ∷ []) (cond d (92 ∷ (48 + c / 8 / 8) ∷ (48 + c / 8 % 8) ∷ (48 + c % 8) ∷ []) (c ∷ []))) ≤ 4
byte_length true d c = omega arith
byte_length false true c = omega arith
byte_length false false c = omega arith

bytes_length : (path : List ℕ) → length (flat_map quoted_byte path) ≤ 4 * length path
bytes_length [] = omega arith
bytes_length (c ∷ path) =
    let first = byte_length (c == 34 || c == 92) (is_quoted_byte c) c in
    let more = bytes_length path in
    let both = length-append (quoted_byte c) (flat_map quoted_byte path) in
    omega (arith, first, more, both)

path_length_by : (path : List ℕ) (b : Bool) → length (cond b (34 ∷ (flat_map quoted_byte path ++ 34 ∷ [])) path) ≤ 4 * length path + 2
path_length_by path true =
    let bytes = bytes_length path in
    let both = length-append (flat_map quoted_byte path) (34 ∷ []) in
    omega (arith, bytes, both)
path_length_by path false = omega arith

path_length : (path : List ℕ) → length (quoted_path path) ≤ 4 * length path + 2
path_length path = path_length_by path (list_any is_quoted_byte path)

mode_length : (mode : Mode) → HasId mode → length (mode_text mode) ≤ 48
mode_length Executable id = omega arith
mode_length Link id = omega arith
mode_length (Project id) is =
    let whole = length-append (codes "160000 ") (encode_lower id ++ codes " ") in
    let rest = length-append (encode_lower id) (codes " ") in
    let digits = length-encode_with lower_digits id in
    let twenty = is.0 in
    omega (arith, whole, rest, digits, twenty)

-- ---- lines

-- a line without its LF
abbrev bare : Listed → List ℕ
bare l = mode_text l.mode ++ quoted_path l.path

line_cut : (l : Listed) (next : List ℕ) → listed_line l ++ next ≡ bare l ++ 10 ∷ next
line_cut l next = append_assoc (mode_text l.mode) (quoted_path l.path ++ 10 ∷ []) next ∙ ap (λ (t : List ℕ). mode_text l.mode ++ t) (append_assoc (quoted_path l.path) (10 ∷ []) next) ∙ sym (append_assoc (mode_text l.mode) (quoted_path l.path) (10 ∷ next))

begins : (l : Listed) → MayBeListed l → BeginsMode (bare l) l.mode (quoted_path l.path)
begins l h = record { spelled = refl; id = h.id }

says : (l : Listed) → MayBeListed l → SaysListed (bare l) l
says l h = record { text = quoted_path l.path; begins = begins l h; path = names_again l.path h.bytes h.path }

passes_none : (path : List ℕ) → Spells 10 (quoted_path path) path → length path ≤ path_limit → (number : ℕ) → PassesPath 10 (quoted_path path) number → ⊥
passes_none path spells fits number h =
    let same : h.path ≡ path = elim h.runs [
      | inl q ↦ (whole_run true 10 (quoted_path path) h.path h.rest path q spells).0
      | inr p ↦ (whole_run false 10 (quoted_path path) h.path h.rest path p spells).0
    ] in
    let long = ap length same in
    let count = h.count in
    let above = h.above in
    omega (arith, long, count, above, fits)

no_long_path : (l : Listed) → MayBeListed l → (number : ℕ) → PassesPathIn (bare l) number → ⊥
no_long_path l h number p =
    let same = (one_mode (bare l) p.mode l.mode p.text (quoted_path l.path) p.begins (begins l h)).1 in
    passes_none l.path (names_again l.path h.bytes h.path).1 h.fits number (subst (λ (t : List ℕ). PassesPath 10 t number) same p.passes)

bare_short : (l : Listed) → MayBeListed l → length (bare l) < line_limit
bare_short l h =
    let both = length-append (mode_text l.mode) (quoted_path l.path) in
    let mode = mode_length l.mode h.id in
    let path = path_length l.path in
    let fits = h.fits in
    omega (arith, both, mode, path, fits)

line_length : (l : Listed) (next : List ℕ) → length (listed_line l ++ next) ≡ length (bare l) + (length next + 1)
line_length l next =
    let cut = ap length (line_cut l next) in
    let both = length-append (bare l) (10 ∷ next) in
    omega (arith, cut, both)

takes : (at : ℕ) (l : Listed) (next : List ℕ) → MayBeListed l → at + length (listed_line l ++ next) ≤ LISTING_LIMIT → TakesLine at (listed_line l ++ next) (bare l) next
takes at l next h within = record {
  whole = record {
    cut = line_cut l next;
    one_line = no_feed (bare l) (shown_both (mode_text l.mode) (quoted_path l.path) (mode_shown l.mode h.id) (path_shown l.path));
    short = bare_short l h;
    within = let len = line_length l next in omega (arith, len, within);
  };
  fits = no_long_path l h;
}

reads : (at : ℕ) (lines : List Listed) → AllByRecursion MayBeListed lines → at + length (lines_text lines) ≤ LISTING_LIMIT → (here : ℕ) × Reads at (lines_text lines) lines here []
reads at [] h within = (at, (refl, refl))
reads at (l ∷ lines) (h, hs) within =
    let len = line_length l (lines_text lines) in
    let more = reads (behind at (bare l)) lines hs (omega (arith, len, within)) in
    (more.0, (bare l, lines_text lines, takes at l (lines_text lines) h within, says l h, more.1))

pub reread : (lines : List Listed) → AllByRecursion MayBeListed lines → length (lines_text lines) ≤ LISTING_LIMIT → IsListing (lines_text lines) lines
reread lines h within = reads 0 lines h (let sum = within in omega (arith, sum))
