-- The parts of commands: none begins as the next does, and what each wants still.
use Rattle.std.proofs.Common.{◌≡◌, ℕ, zero, suc, ◌+◌, inl, inr, Bool, true, false, nat_eq, List, [], ◌∷◌, ◌++◌, length, refl, ap, subst, arith, codes, Option, None}
use Rattle.std.specs.List.{AllPass, starts_with}
use Rattle.swh_base.proofs.Splits.{absent}
use Rattle.swh_base.specs.Text.{is_digit, IsPerson}
use Rattle.swh_fastgrammar.specs.declared.command.At.{At}
use Rattle.swh_fastgrammar.specs.declared.command.Change.{Change}
use Rattle.swh_fastgrammar.specs.declared.command.Commitish.{Commitish}
use Rattle.swh_fastgrammar.specs.declared.command.Commitish.TheVariants.{Mark}
use Rattle.swh_fastgrammar.specs.Grammar.{◌▹◌, ◌▸◌, optional, many, line_at, line, placed_line, anything, contents, mark, oid, from, change}
use Rattle.swh_fastrows.specs.Places.{FirstLine, Refuses}
use Rattle.swh_fastgrammar.specs.Row.{Row, row_text, IsData, Opens, IsRow, Placed, placed}
use Rattle.swh_fastgrammar.specs.Word.{IsMark, NamesPerson, NamesEncoding, NamesCommit}
use Rattle.swh_fastgrammar.proofs.Items.{line_single, placed_single, contents_single, line_begins, placed_begins, contents_begins, single_begins, optional_begins, skip_begins, both_begin, many_begins, change_begins, author, committer, encoding, tagger, merge, after_data}
use Rattle.swh_fastgrammar.proofs.Parts.{Begins, cons_cut, change_cut, some_change}
use Rattle.swh_fastrows.proofs.Joins.{plain, plain_row}
use Rattle.swh_fastread.proofs.Remains.{Solid, single_solid, Clash, word_clash, no_more, Completes, Wants}

pub mark_solid : Solid mark
mark_solid = single_solid mark (line_single (codes "mark :") IsMark)

pub oid_solid : Solid oid
oid_solid = single_solid oid (line_single (codes "original-oid ") anything)

pub author_solid : Solid author
author_solid = single_solid author (line_single (codes "author ") NamesPerson)

pub committer_solid : Solid committer
committer_solid = single_solid committer (line_single (codes "committer ") NamesPerson)

pub encoding_solid : Solid encoding
encoding_solid = single_solid encoding (line_single (codes "encoding ") NamesEncoding)

pub tagger_solid : Solid tagger
tagger_solid = single_solid tagger (line_single (codes "tagger ") NamesPerson)

pub from_solid : Solid from
from_solid = single_solid from (placed_single (codes "from ") NamesCommit)

pub merge_solid : Solid merge
merge_solid = single_solid merge (placed_single (codes "merge ") NamesCommit)

pub contents_solid : Solid contents
contents_solid = single_solid contents contents_single

pub change_solid : Solid change
change_solid = record { cuts = λ a b c d x y h k e. let r = change_cut a c b d x y h k e in (r.0, r.2); some = λ x h. some_change [] [] x h refl }

-- a line of this word, where a line of another word or data come next
line_clash : {X Y : Type 0} (word : List ℕ) (Tells : List ℕ → X → Type 0) (N : List Placed → Y → Type 0) → ((t : List ℕ) → starts_with nat_eq (word ++ t) word ≡ true) → Begins word false N → Clash (line word Tells) N
line_clash word Tells N e n = word_clash word (line word Tells) N (line_single word Tells) (line_begins word word true Tells e) n

placed_clash : {X Y : Type 0} (word : List ℕ) (Tells : List ℕ → X → Type 0) (N : List Placed → Y → Type 0) → ((t : List ℕ) → starts_with nat_eq (word ++ t) word ≡ true) → Begins word false N → Clash (placed_line word Tells) N
placed_clash word Tells N e n = word_clash word (placed_line word Tells) N (placed_single word Tells) (placed_begins word word true Tells e) n

-- blobs
pub blob_oid : Clash oid contents
blob_oid = line_clash (codes "original-oid ") anything contents (λ t. refl) (contents_begins (codes "original-oid ") (λ t. refl))

pub blob_mark : Clash mark (optional oid ▸ contents)
blob_mark = line_clash (codes "mark :") IsMark (optional oid ▸ contents) (λ t. refl) (skip_begins (codes "mark :") false (optional oid) contents (optional_begins (codes "mark :") oid contents (line_begins (codes "mark :") (codes "original-oid ") false anything (λ t. refl)) (contents_begins (codes "mark :") (λ t. refl))))

-- tags
abbrev pub tag_rest : List Placed → Option (List ℕ) × List ℕ → Type 0
tag_rest = optional tagger ▹ contents

pub tag_tagger : Clash tagger contents
tag_tagger = line_clash (codes "tagger ") NamesPerson contents (λ t. refl) (contents_begins (codes "tagger ") (λ t. refl))

pub tag_oid : Clash oid tag_rest
tag_oid = line_clash (codes "original-oid ") anything tag_rest (λ t. refl) (optional_begins (codes "original-oid ") tagger contents (line_begins (codes "original-oid ") (codes "tagger ") false NamesPerson (λ t. refl)) (contents_begins (codes "original-oid ") (λ t. refl)))

pub tag_mark : Clash mark (from ▹ optional oid ▸ tag_rest)
tag_mark = line_clash (codes "mark :") IsMark (from ▹ optional oid ▸ tag_rest) (λ t. refl) (single_begins (codes "mark :") false from (optional oid ▸ tag_rest) (placed_single (codes "from ") NamesCommit) (placed_begins (codes "mark :") (codes "from ") false NamesCommit (λ t. refl)))

-- commits, from their data on, and before
abbrev pub from_data : List Placed → List ℕ × (Option (At Commitish) × (List (At Commitish) × List (At Change))) → Type 0
from_data = contents ▹ after_data

abbrev pub from_committer : List Placed → List ℕ × (Option (List ℕ) × (List ℕ × (Option (At Commitish) × (List (At Commitish) × List (At Change))))) → Type 0
from_committer = committer ▹ optional encoding ▹ from_data

pub commit_merge : Clash merge (many change)
commit_merge = placed_clash (codes "merge ") NamesCommit (many change) (λ t. refl) (many_begins (codes "merge ") change (change_begins (codes "merge ") (λ t. refl) (λ t. refl) (λ t. refl) (λ t. refl) (λ t. refl)))

pub commit_from : Clash from (many merge ▹ many change)
commit_from = placed_clash (codes "from ") NamesCommit (many merge ▹ many change) (λ t. refl) (both_begin (codes "from ") (many merge) (many change) (many_begins (codes "from ") merge (placed_begins (codes "from ") (codes "merge ") false NamesCommit (λ t. refl))) (many_begins (codes "from ") change (change_begins (codes "from ") (λ t. refl) (λ t. refl) (λ t. refl) (λ t. refl) (λ t. refl))))

pub commit_encoding : Clash encoding from_data
commit_encoding = line_clash (codes "encoding ") NamesEncoding from_data (λ t. refl) (single_begins (codes "encoding ") false contents after_data contents_single (contents_begins (codes "encoding ") (λ t. refl)))

committer_begins : (word : List ℕ) → ((t : List ℕ) → starts_with nat_eq (codes "committer " ++ t) word ≡ false) → Begins word false from_committer
committer_begins word e = single_begins word false committer (optional encoding ▹ from_data) (line_single (codes "committer ") NamesPerson) (line_begins word (codes "committer ") false NamesPerson e)

pub commit_author : Clash author from_committer
commit_author = line_clash (codes "author ") NamesPerson from_committer (λ t. refl) (committer_begins (codes "author ") (λ t. refl))

author_begins : (word : List ℕ) → ((t : List ℕ) → starts_with nat_eq (codes "author " ++ t) word ≡ false) → ((t : List ℕ) → starts_with nat_eq (codes "committer " ++ t) word ≡ false) → Begins word false (optional author ▹ from_committer)
author_begins word a e = optional_begins word author from_committer (line_begins word (codes "author ") false NamesPerson a) (committer_begins word e)

pub commit_oid : Clash oid (optional author ▹ from_committer)
commit_oid = line_clash (codes "original-oid ") anything (optional author ▹ from_committer) (λ t. refl) (author_begins (codes "original-oid ") (λ t. refl) (λ t. refl))

pub commit_mark : Clash mark (optional oid ▸ optional author ▹ from_committer)
commit_mark = line_clash (codes "mark :") IsMark (optional oid ▸ optional author ▹ from_committer) (λ t. refl) (skip_begins (codes "mark :") false (optional oid) (optional author ▹ from_committer) (optional_begins (codes "mark :") oid (optional author ▹ from_committer) (line_begins (codes "mark :") (codes "original-oid ") false anything (λ t. refl)) (author_begins (codes "mark :") (λ t. refl) (λ t. refl))))

pub end_clash : {X : Type 0} (L : List Placed → X → Type 0) → Solid L → Clash L no_more
end_clash {X} L s [] more x y h e = s.some x h
end_clash {X} L s (p ∷ rows) more x y h e = cc

-- a part that does not begin with the next line does not with another part after it
pub refuses_then : {X Y : Type 0} (L : List Placed → X → Type 0) (N : List Placed → Y → Type 0) → Solid L → (text : List ℕ) → Refuses L text → Refuses (L ▹ N) text
refuses_then {X} {Y} L N s text r p more v f h = by_front h.0 h.2 h.3
  where
    by_front : (front : List Placed) → p ∷ more ≡ front ++ h.1 → L front v.0 → ⊥
    by_front [] e k = s.some v.0 k
    by_front (q ∷ front) e k = r q front v.0 (subst (λ (x : Placed). FirstLine text x.row.line) (cons_cut p q more (front ++ h.1) e).0 f) k

pub none_then : {X Y : Type 0} (L : List Placed → X → Type 0) (N : List Placed → Y → Type 0) → Solid L → (v : X × Y) → (L ▹ N) [] v → ⊥
none_then {X} {Y} L N s v h = by_front h.0 h.2 h.3
  where
    by_front : (front : List Placed) → [] ≡ front ++ h.1 → L front v.0 → ⊥
    by_front [] e k = s.some v.0 k
    by_front (q ∷ front) e k = cc

completes_optional : {X Y : Type 0} (L : List Placed → X → Type 0) (N : List Placed → Y → Type 0) (n : ℕ) → Completes N n → Completes (optional L ▹ N) n
completes_optional L N n c = record { rows = c.rows; x = (None, c.x); says = ([], placed n c.rows, refl, refl, c.says); good = c.good; no_feed = c.no_feed }

completes_skip : {X Y : Type 0} (L : List Placed → X → Type 0) (N : List Placed → Y → Type 0) (n : ℕ) → Completes (L ▹ N) n → Completes (L ▸ N) n
completes_skip L N n c = record { rows = c.rows; x = c.x.1; says = (c.x.0, c.says); good = c.good; no_feed = c.no_feed }

abbrev pub zero_row : Row
zero_row = record { line = codes "data 0"; raw = [] }

zero_digit : AllPass is_digit (codes "0")
zero_digit zero d l = refl
zero_digit (suc k) d l = absurd (omega (arith, l))

pub zero_data : IsData zero_row [] (codes "done\n")
zero_data = inl (record { text = codes "0"; feed = []; line = refl; number = record { some = omega arith; short = omega arith; digits = zero_digit; value = refl }; raw = refl; is_feed = inr (refl, refl) })

pub zero_is_row : IsRow zero_row (codes "done\n")
zero_is_row = record { one_line = absent 10 (codes "data 0") refl; after = inl ([], zero_data) }

completes_contents : (n : ℕ) → Completes contents n
completes_contents n = record { rows = zero_row ∷ []; x = []; says = (record { at = n; row = zero_row }, codes "done\n", refl, zero_data); good = (zero_is_row, tt); no_feed = refl }

pub completes_data : {Y : Type 0} (N : List Placed → Y → Type 0) (y : Y) → N [] y → (n : ℕ) → Completes (contents ▹ N) n
completes_data N y h n = record { rows = zero_row ∷ []; x = ([], y); says = (record { at = n; row = zero_row } ∷ [], [], refl, (record { at = n; row = zero_row }, codes "done\n", refl, zero_data), h); good = (zero_is_row, tt); no_feed = refl }

pub wants_contents : Wants contents
wants_contents = record { none = contents_solid.some; complete = completes_contents }

nothing_after : after_data [] (None, ([], []))
nothing_after = ([], [], refl, refl, ([], [], refl, refl, refl))

pub wants_data : Wants from_data
wants_data = record { none = none_then contents after_data contents_solid; complete = completes_data after_data (None, ([], [])) nothing_after }

four_digits : AllPass is_digit (codes "0000")
four_digits zero d l = refl
four_digits (suc zero) d l = refl
four_digits (suc (suc zero)) d l = refl
four_digits (suc (suc (suc zero))) d l = refl
four_digits (suc (suc (suc (suc k)))) d l = absurd (omega (arith, l))

no_bytes : (f : ℕ → Bool) → AllPass f []
no_bytes f k d l = absurd (omega (arith, l))

some_person : IsPerson (codes "<> 0 +0000")
some_person = record {
  name = None;
  email = [];
  seconds = codes "0";
  sign = 43;
  zone = codes "0000";
  spelled = refl;
  name_bytes = no_bytes _;
  email_bytes = no_bytes _;
  some_seconds = omega arith;
  few_seconds = omega arith;
  seconds_digits = zero_digit;
  is_sign = inl refl;
  four = refl;
  zone_digits = four_digits;
}

abbrev first : List ℕ → ℕ
first [] = 0
first (c ∷ t) = c

committer_closed : Opens (codes "committer <> 0 +0000") → ⊥
committer_closed (raw, bytes, after, inl d) = let n : 99 ≡ 100 = ap first d.line in omega (arith, n)
committer_closed (raw, bytes, after, inr d) = let n : 99 ≡ 100 = ap first d.line in omega (arith, n)

completes_committer : (n : ℕ) → Completes from_committer n
unfolding completes_optional completes_data
completes_committer n =
    let row : Row = plain (codes "committer <> 0 +0000") in
    let c = completes_optional encoding from_data (n + length (row_text row)) (completes_data after_data (None, ([], [])) nothing_after (n + length (row_text row))) in
    record {
      rows = row ∷ c.rows;
      x = (codes "<> 0 +0000", c.x);
      says = (line_at n (codes "committer <> 0 +0000") ∷ [], placed (n + length (row_text row)) c.rows, refl, (n, codes "<> 0 +0000", refl, (refl, some_person)), c.says);
      good = (plain_row (codes "committer <> 0 +0000") (codes "data 0\ndone\n") (absent 10 (codes "committer <> 0 +0000") refl) committer_closed, c.good);
      no_feed = refl;
    }

pub wants_committer : Wants from_committer
wants_committer = record { none = none_then committer (optional encoding ▹ from_data) committer_solid; complete = completes_committer }

one_digit : AllPass is_digit (codes "1")
one_digit zero d l = refl
one_digit (suc k) d l = absurd (omega (arith, l))

some_commit : NamesCommit (codes ":1") (Mark 1)
some_commit = (codes "1", refl, record { number = record { some = omega arith; short = omega arith; digits = one_digit; value = refl }; positive = omega arith })

from_closed : Opens (codes "from :1") → ⊥
from_closed (raw, bytes, after, inl d) = let n : 102 ≡ 100 = ap first d.line in omega (arith, n)
from_closed (raw, bytes, after, inr d) = let n : 102 ≡ 100 = ap first d.line in omega (arith, n)

abbrev pub from_from : List Placed → At Commitish × (Option (List ℕ) × List ℕ) → Type 0
from_from = from ▹ optional oid ▸ tag_rest

completes_from : (n : ℕ) → Completes from_from n
unfolding completes_skip completes_optional completes_contents
completes_from n =
    let row : Row = plain (codes "from :1") in
    let m : ℕ = n + length (row_text row) in
    let c = completes_skip (optional oid) tag_rest m (completes_optional oid tag_rest m (completes_optional tagger contents m (completes_contents m))) in
    record {
      rows = row ∷ c.rows;
      x = (record { at = n; it = Mark 1 }, c.x);
      says = (line_at n (codes "from :1") ∷ [], placed m c.rows, refl, (codes ":1", refl, some_commit), c.says);
      good = (plain_row (codes "from :1") (codes "data 0\ndone\n") (absent 10 (codes "from :1") refl) from_closed, c.good);
      no_feed = refl;
    }

pub wants_from : Wants from_from
wants_from = record { none = none_then from (optional oid ▸ tag_rest) from_solid; complete = completes_from }
