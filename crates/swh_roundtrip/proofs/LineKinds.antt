-- The lines of what is cooked: each says what it is written for, and passes no limit.
use Rattle.std.proofs.Common.{◌≡◌, ℕ, zero, suc, ◌+◌, ◌==◌, ◌^◌, ◌<◌, ◌≤◌, false, List, [], ◌∷◌, ◌++◌, length, length-append, Contains, refl, sym, ap, arith, codes}
use Rattle.std.specs.Prelude.{decimal}
use Rattle.std.specs.List.{list_any}
use Rattle.std.proofs.lemmas.List.Sums.{AllPass-from_list_all}
use Rattle.swh_base.specs.Limits.{line_limit, ref_limit, tag_limit}
use Rattle.swh_base.specs.Text.{IsRef, is_ref_byte}
use Rattle.swh_base.proofs.Lacks.{ref-no_feed, person-no_feed}
use Rattle.swh_base.proofs.Splits.{absent}
use Rattle.swh_fastlex.proofs.Windows.{none_joined}
use Rattle.swh_revfmt.specs.Plain.{text_line, IsPersonLine, IsEncoding}
use Rattle.swh_fastwrite.specs.Text.{mark_line, marked_line, cook_branch}
use Rattle.swh_fastgrammar.specs.declared.command.Commitish.TheVariants.{Mark}
use Rattle.swh_fastgrammar.specs.Grammar.{line, placed_line, mark as mark_part, nothing, zeros}
use Rattle.swh_fastgrammar.specs.Row.{is_comment}
use Rattle.swh_fastgrammar.specs.Word.{IsMark, IsRefRun, NamesRef, NamesTag, NamesPerson, NamesEncoding, NamesCommit}
use Rattle.swh_fastlines.specs.Limit.{ref_words, PassesRefs}
use Rattle.swh_fastlines.proofs.WordLimits.{one_place, ref_passes_not}
use Rattle.swh_fastlines.proofs.RefRuns.{run_whole, colon_passes_not}
use Rattle.swh_roundtrip.proofs.Numerals.{number_again, mark_again, number-lacks}
use Rattle.swh_roundtrip.proofs.GoodLines.{IsGoodLine, NoRefWord, NoPathWord, NoDataWord, good_line, ref_line}
use Rattle.swh_roundtrip.proofs.Spelled.{Spells, spells_line, spells_placed}

-- a number that a mark may be
pub record IsMarkNumber (m : ℕ) : Type 0 where
  pub some : 1 ≤ m
  pub small : m < 10 ^ 18

-- a line of another word, whose text stands in one line
pub other_line : (word text : List ℕ) → list_any (λ c. c == 10) word ≡ false → (Contains text 10 → ⊥) → length word + length text < line_limit → is_comment (word ++ text) ≡ false → NoDataWord (word ++ text) → NoRefWord (word ++ text) → NoPathWord (word ++ text) → IsGoodLine (word ++ text)
other_line word text w n short c d r p = good_line (word ++ text) (none_joined word text 10 (absent 10 word w) n) (omega (arith, short, length-append word text)) c d r p

number-no_feed : (n : ℕ) → n < 10 ^ 18 → Contains (decimal n) 10 → ⊥
number-no_feed n small = number-lacks (decimal n) n 10 refl (number_again n small)

digits_few : (n : ℕ) → n < 10 ^ 18 → length (decimal n) ≤ 18
digits_few n small = (number_again n small).short

-- ## Marks

pub spells_mark : (at m : ℕ) → IsMarkNumber m → Spells mark_part at (mark_line m) m
spells_mark at m h =
    let few = digits_few m h.small in
    spells_line (codes "mark :") IsMark at (decimal m) m
    (other_line (codes "mark :") (decimal m) refl (number-no_feed m h.small) (omega (arith, few)) refl refl (refl, refl, refl, refl, refl) (refl, refl, refl, refl))
    (mark_again m h.some h.small)

-- ## Words alone

pub spells_word : (at : ℕ) (word : List ℕ) → list_any (λ c. c == 10) word ≡ false → length word < 100 → is_comment (word ++ []) ≡ false → NoDataWord (word ++ []) → NoRefWord (word ++ []) → NoPathWord (word ++ []) → Spells (line word nothing) at (text_line word []) tt
spells_word at word w short c d r p = spells_line word nothing at [] tt (other_line word [] w (λ (k, l, e). absurd (omega (arith, l))) (omega (arith, short)) c d r p) refl

-- ## Persons and encodings

line_short : (word text : List ℕ) → length (text_line word text) ≤ line_limit → length word + length text < line_limit
line_short word text short = omega (arith, short, length-append word (text ++ 10 ∷ []), length-append text (10 ∷ []))

pub spells_person : (at : ℕ) (word text : List ℕ) → IsPersonLine word text → list_any (λ c. c == 10) word ≡ false → is_comment (word ++ text) ≡ false → NoDataWord (word ++ text) → NoRefWord (word ++ text) → NoPathWord (word ++ text) → Spells (line word NamesPerson) at (text_line word text) text
spells_person at word text h w c d r p = spells_line word NamesPerson at text text (other_line word text w (person-no_feed text h.person) (line_short word text h.short) c d r p) (refl, h.person)

pub spells_encoding : (at : ℕ) (text : List ℕ) → IsEncoding text → Spells (line (codes "encoding ") NamesEncoding) at (text_line (codes "encoding ") text) text
spells_encoding at text h =
    spells_line (codes "encoding ") NamesEncoding at text text
    (other_line (codes "encoding ") text refl h.one_line (line_short (codes "encoding ") text h.short) refl refl (refl, refl, refl, refl, refl) (refl, refl, refl, refl))
    (refl, h.some, h.no_nul)

-- ## Refs

ref_run : (ref : List ℕ) → IsRef ref → IsRefRun ref (length ref)
ref_run ref h = run_whole ref (λ k l. h.bytes k 0 l)

pub good_ref : (word ref : List ℕ) (limit : ℕ) → Contains ref_words (word, limit) → IsRef ref → length ref ≤ limit → limit ≤ ref_limit → length word < 100 → list_any (λ c. c == 10) word ≡ false → is_comment (word ++ ref) ≡ false → NoDataWord (word ++ ref) → NoPathWord (word ++ ref) → IsGoodLine (word ++ ref)
good_ref word ref limit one h within most short w c d p =
    ref_line (word ++ ref) (none_joined word ref 10 (absent 10 word w) (ref-no_feed ref h)) (omega (arith, within, most, short, length-append word ref)) c d
    (ref_passes_not (word ++ ref) word ref limit (length ref) one refl (ref_run ref h) within) p

pub spells_ref : (at : ℕ) (word ref : List ℕ) → Contains ref_words (word, ref_limit) → IsRef ref → length word < 100 → list_any (λ c. c == 10) word ≡ false → is_comment (word ++ ref) ≡ false → NoDataWord (word ++ ref) → NoPathWord (word ++ ref) → Spells (line word NamesRef) at (text_line word ref) ref
spells_ref at word ref one h short w c d p = spells_line word NamesRef at ref ref (good_ref word ref ref_limit one h h.short (omega arith) short w c d p) (refl, h)

pub spells_tag_name : (at : ℕ) (tag : List ℕ) → IsRef tag → length tag ≤ tag_limit → Spells (line (codes "tag ") NamesTag) at (text_line (codes "tag ") tag) tag
spells_tag_name at tag h within =
    spells_line (codes "tag ") NamesTag at tag tag (good_ref (codes "tag ") tag tag_limit (4, omega arith, refl) h within (omega arith) (omega arith) refl refl refl (refl, refl, refl, refl)) (refl, h, within)

pub is_cook_branch : IsRef cook_branch
is_cook_branch = record { some = omega arith; short = omega arith; bytes = AllPass-from_list_all is_ref_byte cook_branch refl }

-- ## Marks of commits

pub good_marked : (word : List ℕ) (m : ℕ) → Contains ref_words (word, ref_limit) → IsMarkNumber m → length word < 100 → list_any (λ c. c == 10) word ≡ false → is_comment (word ++ 58 ∷ decimal m) ≡ false → NoDataWord (word ++ 58 ∷ decimal m) → NoPathWord (word ++ 58 ∷ decimal m) → IsGoodLine (word ++ 58 ∷ decimal m)
good_marked word m one h short w c d p = ref_line (word ++ 58 ∷ decimal m) (none_joined word (58 ∷ decimal m) 10 (absent 10 word w) no_feed) (omega (arith, few, short, length-append word (58 ∷ decimal m))) c d refs p
  where
    few : length (decimal m) ≤ 18
    few = digits_few m h.small

    no_feed : Contains (58 ∷ decimal m) 10 → ⊥
    no_feed (zero, l, e) = absurd (omega arith)
    no_feed (suc k, l, e) = number-no_feed m h.small (k, omega (arith, l), e)

    refs : (number : ℕ) → PassesRefs (word ++ 58 ∷ decimal m) number → ⊥
    refs number q =
        let same = one_place (word ++ 58 ∷ decimal m) word (58 ∷ decimal m) q.word q.text ref_limit q.limit one q.one refl q.spelled in
        colon_passes_not q.text (decimal m) q.limit (sym same.0) number q.passes

pub names_mark : (m : ℕ) → IsMarkNumber m → NamesCommit (58 ∷ decimal m) (Mark m)
names_mark m h = (decimal m, refl, mark_again m h.some h.small)

pub spells_from : (at m : ℕ) → IsMarkNumber m → Spells (placed_line (codes "from ") NamesCommit) at (marked_line (codes "from ") m) (record { at = at; it = Mark m })
spells_from at m h = spells_placed (codes "from ") NamesCommit at (58 ∷ decimal m) (Mark m) (good_marked (codes "from ") m (2, omega arith, refl) h (omega arith) refl refl refl (refl, refl, refl, refl)) (names_mark m h)

pub spells_merge : (at m : ℕ) → IsMarkNumber m → Spells (placed_line (codes "merge ") NamesCommit) at (marked_line (codes "merge ") m) (record { at = at; it = Mark m })
spells_merge at m h = spells_placed (codes "merge ") NamesCommit at (58 ∷ decimal m) (Mark m) (good_marked (codes "merge ") m (3, omega arith, refl) h (omega arith) refl refl refl (refl, refl, refl, refl)) (names_mark m h)

abbrev first : List ℕ → ℕ
first [] = 0
first (c ∷ text) = c

not_zero : (c d : ℕ) → c ≡ 58 → d ≡ 48 → c ≡ d → ⊥
not_zero c d a b e = omega (arith, a, b, e)

-- where a reset names the commit of a mark: forty zeros are none
pub spells_aim : (at m : ℕ) → IsMarkNumber m → Spells (placed_line (codes "from ") (λ text c. NamesCommit text c × (text ≡ zeros → ⊥))) at (marked_line (codes "from ") m) (record { at = at; it = Mark m })
spells_aim at m h =
    spells_placed (codes "from ") (λ text c. NamesCommit text c × (text ≡ zeros → ⊥)) at (58 ∷ decimal m) (Mark m)
    (good_marked (codes "from ") m (2, omega arith, refl) h (omega arith) refl refl refl (refl, refl, refl, refl)) (names_mark m h, λ e. not_zero (first (58 ∷ decimal m)) (first zeros) refl refl (ap first e))

pub spells_zeros : (at : ℕ) → Spells (line (codes "from ") (λ text (x : Unit {0}). text ≡ zeros)) at (text_line (codes "from ") zeros) tt
spells_zeros at =
    spells_line (codes "from ") (λ text (x : Unit {0}). text ≡ zeros) at zeros tt (good_ref (codes "from ") zeros ref_limit (2, omega arith, refl) is_ref (omega arith) (omega arith) (omega arith) refl refl refl (refl, refl, refl, refl)) refl
  where
    is_ref : IsRef zeros
    is_ref = record { some = omega arith; short = omega arith; bytes = AllPass-from_list_all is_ref_byte zeros refl }
