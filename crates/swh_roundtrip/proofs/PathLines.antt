-- The lines of files: the path is read as itself, and is not too long.
use Rattle.std.proofs.Common.{◌≡◌, ◌≢◌, ◌⊎◌, inl, inr, ℕ, zero, suc, ◌+◌, ◌*◌, ◌/◌, ◌%◌, ◌==◌, ◌^◌, ◌<◌, ◌≤◌, Bool, true, false, ◌||◌, cond, List, [], ◌∷◌, ◌++◌, length, length-append, Contains, refl, sym, ap, ◌∙◌, subst, arith, append_assoc, codes}
use Rattle.std.specs.Prelude.{decimal}
use Rattle.std.specs.List.{AllByRecursion, flat_map, list_any}
use Rattle.std.proofs.lemmas.List.Folds.{list_any_at}
use Rattle.hex.specs.Hex.{encode_lower}
use Rattle.swh_base.specs.Limits.{path_limit}
use Rattle.swh_base.specs.Name.{IsId, is_lower_hex_digit}
use Rattle.swh_base.proofs.Ids.{IsIdText-encode}
use Rattle.swh_base.proofs.Lacks.{lacks}
use Rattle.swh_base.proofs.Splits.{absent}
use Rattle.swh_dirfmt.proofs.Modes.{decimal-100644, decimal-100755, decimal-120000}
use Rattle.swh_fastlex.specs.Path.{IsPath, Spells as SpellsPath, RunsPath, PassesPath}
use Rattle.swh_fastlex.proofs.Runs.{whole_run}
use Rattle.swh_fastlex.proofs.Windows.{none_joined}
use Rattle.swh_revfmt.specs.Plain.{text_line}
use Rattle.swh_fastwrite.specs.Quoted.{is_quoted_byte, quoted_byte, quoted_path}
use Rattle.swh_fastwrite.specs.Text.{file_line, project_line}
use Rattle.swh_fastwrite.proofs.Quotes.{names_again}
use Rattle.swh_fastgrammar.specs.declared.command.Change.TheVariants.{Set}
use Rattle.swh_fastgrammar.specs.declared.command.Dataref.{Dataref}
use Rattle.swh_fastgrammar.specs.declared.command.Dataref.TheVariants.{Mark, Hex}
use Rattle.swh_fastgrammar.specs.Grammar.{change, BeginsSet, SetsTo}
use Rattle.swh_fastgrammar.specs.Word.{IsMode, SpellsId}
use Rattle.swh_fastgrammar.proofs.Parts.{begins_one}
use Rattle.swh_fastgrammar.proofs.Rows.{same_tail}
use Rattle.swh_fastlines.specs.Limit.{PassesPaths}
use Rattle.swh_fastlines.proofs.WordLimits.{no_words}
use Rattle.swh_roundtrip.proofs.Numerals.{number_again, mark_again, number-lacks}
use Rattle.swh_roundtrip.proofs.GoodLines.{IsGoodLine, no_refs, no_count, closed_line, lacking}
use Rattle.swh_roundtrip.proofs.Spelled.{Spells, spells_change, spells_as}
use Rattle.swh_roundtrip.proofs.LineKinds.{IsMarkNumber}

-- A path that a stream takes: bytes, a path, and not too long.
pub record IsGoodPath (path : List ℕ) : Type 0 where
  pub bytes : AllByRecursion (λ c. c < 256) path
  pub is : IsPath path
  pub short : length path ≤ path_limit

-- ## What is written of a path

four_at_most : (c : ℕ) (a b : Bool) → length (cond a (92 ∷ c ∷ []) (cond b (92 ∷ (48 + c / 8 / 8) ∷ (48 + c / 8 % 8) ∷ (48 + c % 8) ∷ []) (c ∷ []))) ≤ 4
four_at_most c true b = omega arith
four_at_most c false true = omega arith
four_at_most c false false = omega arith

bytes_size : (path : List ℕ) → length (flat_map quoted_byte path) ≤ 4 * length path
bytes_size [] = omega arith
bytes_size (c ∷ path) = let one = four_at_most c (c == 34 || c == 92) (is_quoted_byte c) in let more = bytes_size path in omega (arith, one, more, length-append (quoted_byte c) (flat_map quoted_byte path))

quoted_size : (path : List ℕ) (b : Bool) → length (cond b (34 ∷ (flat_map quoted_byte path ++ 34 ∷ [])) path) ≤ 4 * length path + 2
quoted_size path true = let size = bytes_size path in omega (arith, size, length-append (flat_map quoted_byte path) (34 ∷ []))
quoted_size path false = omega arith

path_size : (path : List ℕ) → length (quoted_path path) ≤ 4 * length path + 2
path_size path = quoted_size path (list_any is_quoted_byte path)

-- none of these is an LF
abbrev NoFeeds : List ℕ → Type 0
NoFeeds bytes = AllByRecursion (λ (c : ℕ). c ≢ 10) bytes

no_feeds : (bytes : List ℕ) → NoFeeds bytes → Contains bytes 10 → ⊥
no_feeds [] h (k, l, e) = absurd (omega (arith, l))
no_feeds (c ∷ bytes) h (zero, l, e) = h.0 e
no_feeds (c ∷ bytes) h (suc k, l, e) = no_feeds bytes h.1 (k, omega (arith, l), e)

feeds_append : (a b : List ℕ) → NoFeeds a → NoFeeds b → NoFeeds (a ++ b)
feeds_append [] b h k = k
feeds_append (c ∷ a) b h k = (h.0, feeds_append a b h.1 k)

byte_feeds : (c : ℕ) (a b : Bool) → (c == 34 || c == 92) ≡ a → is_quoted_byte c ≡ b → NoFeeds (cond a (92 ∷ c ∷ []) (cond b (92 ∷ (48 + c / 8 / 8) ∷ (48 + c / 8 % 8) ∷ (48 + c % 8) ∷ []) (c ∷ [])))
byte_feeds c true b e f = (λ z. omega (arith, z), (λ z. (let t : (10 == 34 || 10 == 92) ≡ true = sym (ap (λ (k : ℕ). k == 34 || k == 92) z) ∙ e in let bad : false ≡ true = t in absurd cc), tt))
byte_feeds c false true e f = (λ z. omega (arith, z), (λ z. omega (arith, z), (λ z. omega (arith, z), (λ z. omega (arith, z), tt))))
byte_feeds c false false e f = (λ z. (let t : true ≡ false = sym (ap is_quoted_byte z) ∙ f in absurd cc), tt)

bytes_feeds : (path : List ℕ) → NoFeeds (flat_map quoted_byte path)
bytes_feeds [] = tt
bytes_feeds (c ∷ path) = feeds_append (quoted_byte c) (flat_map quoted_byte path) (byte_feeds c (c == 34 || c == 92) (is_quoted_byte c) refl refl) (bytes_feeds path)

plain_no_feed : (path : List ℕ) → list_any is_quoted_byte path ≡ false → Contains path 10 → ⊥
plain_no_feed path none (k, within, same) =
    let found = list_any_at is_quoted_byte path k 10 within (ap is_quoted_byte same) in
    let e : true ≡ false = sym found ∙ none in cc

by_quotes : (path : List ℕ) (b : Bool) → list_any is_quoted_byte path ≡ b → Contains (cond b (34 ∷ (flat_map quoted_byte path ++ 34 ∷ [])) path) 10 → ⊥
by_quotes path true e h = no_feeds (34 ∷ (flat_map quoted_byte path ++ 34 ∷ [])) (λ z. omega (arith, z), feeds_append (flat_map quoted_byte path) (34 ∷ []) (bytes_feeds path) (λ z. omega (arith, z), tt)) h
by_quotes path false e h = plain_no_feed path e h

path-no_feed : (path : List ℕ) → Contains (quoted_path path) 10 → ⊥
path-no_feed path h = by_quotes path (list_any is_quoted_byte path) refl h

-- what is written of it is read as no longer path
not_long : (text path : List ℕ) (number : ℕ) → SpellsPath 10 text path → length path ≤ path_limit → PassesPath 10 text number → ⊥
not_long text path number s within p = by_run p.runs
  where
    by_length : p.path ≡ path → ⊥
    by_length same = let count = p.count in let above = p.above in omega (arith, count, above, within, ap length same)

    by_run : RunsPath 10 text p.path p.rest → ⊥
    by_run (inl r) = by_length (whole_run true 10 text p.path p.rest path r s).0
    by_run (inr r) = by_length (whole_run false 10 text p.path p.rest path r s).0

-- ## A line that sets a path

-- Where what stands before the path is as it has to be, the path is not too long.
set_paths : (text : List ℕ) (mode : ℕ) (what : Dataref) (path : List ℕ) → IsGoodPath path → BeginsSet text mode what (quoted_path path) → (number : ℕ) → PassesPaths (codes "M " ++ text) number → ⊥
set_paths text mode what path good begins number (inl p) = lacking (codes "D ") (codes "M " ++ text) p.0 (λ rest. refl) refl p.1
set_paths text mode what path good begins number (inr (inl (other, is, (m, w, rest, b, p)))) =
    let same : text ≡ other = same_tail (codes "M ") text other is in
    let own : BeginsSet other mode what (quoted_path path) = subst (λ (t : List ℕ). BeginsSet t mode what (quoted_path path)) same begins in
    let one : rest ≡ quoted_path path = (begins_one other m mode w what rest (quoted_path path) b own).2 in
    not_long (quoted_path path) path number (names_again path good.bytes good.is).1 good.short (subst (λ (t : List ℕ). PassesPath 10 t number) one p)
set_paths text mode what path good begins number (inr (inr (other, inl is, p))) = lacking (codes "C ") (codes "M " ++ text) other (λ rest. refl) refl is
set_paths text mode what path good begins number (inr (inr (other, inr is, p))) = lacking (codes "R ") (codes "M " ++ text) other (λ rest. refl) refl is

good_set : (text front : List ℕ) (mode : ℕ) (what : Dataref) (path : List ℕ) → IsGoodPath path → BeginsSet text mode what (quoted_path path) → text ≡ front ++ quoted_path path → (Contains front 10 → ⊥) → length front < 100 → IsGoodLine (codes "M " ++ text)
good_set text front mode what path good begins cut n short = record {
  no_feed = none_joined (codes "M ") text 10 (absent 10 (codes "M ") refl) (subst (λ (t : List ℕ). Contains t 10 → ⊥) (sym cut) (none_joined front (quoted_path path) 10 n (path-no_feed path)));
  closed = closed_line (codes "M " ++ text) refl;
  counts = refl;
  short = let size = path_size path in let within = good.short in omega (arith, size, within, short, ap length cut, length-append front (quoted_path path));
  words = no_words (codes "M " ++ text) (no_count (codes "M " ++ text) refl) (no_refs (codes "M " ++ text) (refl, refl, refl, refl, refl)) (set_paths text mode what path good begins);
}

-- ## Files

-- the mode of a file or of a link
abbrev pub IsFileMode : ℕ → Type 0
IsFileMode mode = (mode ≡ 100644) ⊎ ((mode ≡ 100755) ⊎ (mode ≡ 120000))

record IsModeText (mode : ℕ) : Type 0 where
  is : IsMode (decimal mode) mode
  no_feed : list_any (λ c. c == 10) (decimal mode) ≡ false
  short : length (decimal mode) ≤ 6

text_is : (mode : ℕ) (text : List ℕ) → decimal mode ≡ text → IsMode text mode → list_any (λ c. c == 10) text ≡ false → length text ≤ 6 → IsModeText mode
text_is mode text e is n short = record {
  is = subst (λ (t : List ℕ). IsMode t mode) (sym e) is;
  no_feed = ap (list_any (λ c. c == 10)) e ∙ n;
  short = omega (arith, short, ap length e);
}

mode_text : (mode : ℕ) → IsFileMode mode → IsModeText mode
mode_text mode (inl e) = subst IsModeText (sym e) (text_is 100644 (codes "100644") decimal-100644 (inl (refl, refl)) refl (omega arith))
mode_text mode (inr (inl e)) = subst IsModeText (sym e) (text_is 100755 (codes "100755") decimal-100755 (inr (inr (inl (refl, refl)))) refl (omega arith))
mode_text mode (inr (inr e)) = subst IsModeText (sym e) (text_is 120000 (codes "120000") decimal-120000 (inr (inr (inr (inr (refl, refl))))) refl (omega arith))

file_is : (mode digits path : List ℕ) → text_line (codes "M ") (mode ++ (codes " :" ++ (digits ++ 32 ∷ path))) ≡ codes "M " ++ (mode ++ (codes " :" ++ (digits ++ 32 ∷ (path ++ 10 ∷ []))))
file_is mode digits path = simp append_assoc

front_is : (mode digits path : List ℕ) → mode ++ (codes " :" ++ (digits ++ 32 ∷ path)) ≡ (mode ++ (codes " :" ++ (digits ++ 32 ∷ []))) ++ path
front_is mode digits path = simp append_assoc

number-no_feed : (n : ℕ) → n < 10 ^ 18 → Contains (decimal n) 10 → ⊥
number-no_feed n small = number-lacks (decimal n) n 10 refl (number_again n small)

one_byte : (c : ℕ) → c ≢ 10 → Contains (c ∷ []) 10 → ⊥
one_byte c n (zero, l, e) = n e
one_byte c n (suc k, l, e) = absurd (omega (arith, l))

-- the line of a file
pub spells_file : (at mode m : ℕ) (path : List ℕ) → IsFileMode mode → IsMarkNumber m → IsGoodPath path → Spells change at (file_line mode m path) (record { at = at; it = Set mode (Mark m) path })
spells_file at mode m path is h good =
    let text : List ℕ = decimal mode ++ (codes " :" ++ (decimal m ++ 32 ∷ quoted_path path)) in
    let front : List ℕ = decimal mode ++ (codes " :" ++ (decimal m ++ 32 ∷ [])) in
    let t = mode_text mode is in
    let begins : BeginsSet text mode (Mark m) (quoted_path path) = (decimal mode, decimal m, refl, t.is, mark_again m h.some h.small) in
    let few = (number_again m h.small).short in
    let size : length front < 100 = let s = t.short in omega (arith, s, few, length-append (decimal mode) (codes " :" ++ (decimal m ++ 32 ∷ [])), length-append (decimal m) (32 ∷ [])) in
    let none : Contains front 10 → ⊥ = none_joined (decimal mode) (codes " :" ++ (decimal m ++ 32 ∷ [])) 10 (absent 10 (decimal mode) t.no_feed)
    (none_joined (codes " :") (decimal m ++ 32 ∷ []) 10 (absent 10 (codes " :") refl) (none_joined (decimal m) (32 ∷ []) 10 (number-no_feed m h.small) (one_byte 32 (λ z. omega (arith, z))))) in
    let line : IsGoodLine (codes "M " ++ text) = good_set text front mode (Mark m) path good begins (front_is (decimal mode) (decimal m) (quoted_path path)) none size in
    let said : SetsTo text mode (Mark m) path = (quoted_path path, begins, names_again path good.bytes good.is) in
    spells_as change at (text_line (codes "M ") text) (file_line mode m path) (record { at = at; it = Set mode (Mark m) path }) (file_is (decimal mode) (decimal m) (quoted_path path))
    (spells_change at (Set mode (Mark m) path) text line said refl)

-- ## Revisions of other projects

link_is : (digits path : List ℕ) → text_line (codes "M ") (codes "160000 " ++ (digits ++ 32 ∷ path)) ≡ codes "M 160000 " ++ (digits ++ 32 ∷ (path ++ 10 ∷ []))
link_is digits path = simp append_assoc

link_front : (digits path : List ℕ) → codes "160000 " ++ (digits ++ 32 ∷ path) ≡ (codes "160000 " ++ (digits ++ 32 ∷ [])) ++ path
link_front digits path = simp append_assoc

-- the line of a revision of another project
pub spells_project : (at : ℕ) (id path : List ℕ) → IsId id → IsGoodPath path → Spells change at (project_line id path) (record { at = at; it = Set 160000 (Hex id) path })
spells_project at id path is good =
    let text : List ℕ = codes "160000 " ++ (encode_lower id ++ 32 ∷ quoted_path path) in
    let front : List ℕ = codes "160000 " ++ (encode_lower id ++ 32 ∷ []) in
    let spelled : SpellsId (encode_lower id) id = (refl, is) in
    let begins : BeginsSet text 160000 (Hex id) (quoted_path path) = (encode_lower id, refl, refl, spelled) in
    let forty : length (encode_lower id) ≡ 40 = (IsIdText-encode id is).0 in
    let size : length front < 100 = omega (arith, forty, length-append (encode_lower id) (32 ∷ [])) in
    let none : Contains front 10 → ⊥ = none_joined (codes "160000 ") (encode_lower id ++ 32 ∷ []) 10 (absent 10 (codes "160000 ") refl)
    (none_joined (encode_lower id) (32 ∷ []) 10 (lacks is_lower_hex_digit (encode_lower id) 10 refl (IsIdText-encode id is).1) (one_byte 32 (λ z. omega (arith, z)))) in
    let line : IsGoodLine (codes "M " ++ text) = good_set text front 160000 (Hex id) path good begins (link_front (encode_lower id) (quoted_path path)) none size in
    let said : SetsTo text 160000 (Hex id) path = (quoted_path path, begins, names_again path good.bytes good.is) in
    spells_as change at (text_line (codes "M ") text) (project_line id path) (record { at = at; it = Set 160000 (Hex id) path }) (link_is (encode_lower id) (quoted_path path))
    (spells_change at (Set 160000 (Hex id) path) text line said refl)
