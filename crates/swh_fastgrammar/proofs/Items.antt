-- Where items end, and that the rows of an item say one item.
use Rattle.std.proofs.Common.{◌≡◌, ℕ, inl, inr, Bool, true, false, nat_eq, List, [], ◌∷◌, ◌++◌, refl, sym, ap, ◌∙◌, codes, Option, Some, None}
use Rattle.std.specs.List.{starts_with}
use Rattle.swh_fastgrammar.specs.declared.command.At.{At}
use Rattle.swh_fastgrammar.specs.declared.command.Commitish.{Commitish}
use Rattle.swh_fastgrammar.specs.declared.command.Change.{Change}
use Rattle.swh_fastgrammar.specs.declared.command.Change.TheVariants.{Set, Delete, Copy, Move, Clear}
use Rattle.swh_fastgrammar.specs.Grammar.{◌▹◌, ◌▸◌, optional, many, line_at, line, placed_line, nothing, anything, contents, mark, oid, blob, change_word, change, from, commit, tag}
use Rattle.swh_fastgrammar.specs.Row.{Placed}
use Rattle.swh_fastgrammar.specs.Word.{IsMark, NamesRef, NamesTag, NamesPerson, NamesEncoding, NamesCommit}
use Rattle.swh_fastgrammar.proofs.Words.{one_mark, one_commit}
use Rattle.swh_fastgrammar.proofs.Parts.{One, Single, begins, Begins, one_then, one_optional, one_skip, one_many, line_one, placed_one, contents_one, changes_one}

pub line_single : {X : Type 0} (front : List ℕ) (Tells : List ℕ → X → Type 0) → Single (line front Tells)
line_single front Tells rows x h = (line_at h.0 (front ++ h.1), h.2)

pub placed_single : {X : Type 0} (front : List ℕ) (Tells : List ℕ → X → Type 0) → Single (placed_line front Tells)
placed_single front Tells rows a h = (line_at a.at (front ++ h.0), h.1)

pub contents_single : Single contents
contents_single rows x h = (h.0, h.2)

pub line_begins : {X : Type 0} (word front : List ℕ) (b : Bool) (Tells : List ℕ → X → Type 0) → ((text : List ℕ) → starts_with nat_eq (front ++ text) word ≡ b) → Begins word b (line front Tells)
line_begins word front b Tells e rows x h = ap (begins word) h.2 ∙ e h.1

pub placed_begins : {X : Type 0} (word front : List ℕ) (b : Bool) (Tells : List ℕ → X → Type 0) → ((text : List ℕ) → starts_with nat_eq (front ++ text) word ≡ b) → Begins word b (placed_line front Tells)
placed_begins word front b Tells e rows x h = ap (begins word) h.1 ∙ e h.0

pub contents_begins : (word : List ℕ) → ((text : List ℕ) → starts_with nat_eq (codes "data " ++ text) word ≡ false) → Begins word false contents
contents_begins word e rows x h = ap (begins word) h.2 ∙ elim h.3 [
  | inl d ↦ ap (λ (t : List ℕ). starts_with nat_eq t word) d.line ∙ e d.text
  | inr d ↦ ap (λ (t : List ℕ). starts_with nat_eq t word) d.line ∙ e (codes "<<" ++ d.word)
]

-- rows begin with what their first part begins with
pub single_begins : {X Y : Type 0} (word : List ℕ) (b : Bool) (L : List Placed → X → Type 0) (M : List Placed → Y → Type 0) → Single L → Begins word b L → Begins word b (L ▹ M)
single_begins word b L M s l rows v h =
    let p = s h.0 v.0 h.3 in
    ap (begins word) h.2 ∙ ap (λ (r : List Placed). begins word (r ++ h.1)) p.1 ∙ (ap (begins word) (sym p.1) ∙ l h.0 v.0 h.3)

none_begin : (word : List ℕ) (a b : List Placed) → begins word a ≡ false → begins word b ≡ false → begins word (a ++ b) ≡ false
none_begin word [] b e f = f
none_begin word (p ∷ a) b e f = e

pub optional_begins : {X Y : Type 0} (word : List ℕ) (L : List Placed → X → Type 0) (M : List Placed → Y → Type 0) → Begins word false L → Begins word false M → Begins word false (optional L ▹ M)
optional_begins {X} word L M l m rows v h = ap (begins word) h.2 ∙ none_begin word h.0 h.1 (part v.0 h.0 h.3) (m h.1 v.1 h.4)
  where
    part : (x : Option X) (f : List Placed) → optional L f x → begins word f ≡ false
    part None f k = ap (begins word) k
    part (Some x) f k = l f x k

pub many_begins : {X : Type 0} (word : List ℕ) (L : List Placed → X → Type 0) → Begins word false L → Begins word false (many L)
many_begins word L l rows [] h = ap (begins word) h
many_begins word L l rows (x ∷ xs) h = ap (begins word) h.2 ∙ none_begin word h.0 h.1 (l h.0 x h.3) (many_begins word L l h.1 xs h.4)

pub both_begin : {X Y : Type 0} (word : List ℕ) (L : List Placed → X → Type 0) (M : List Placed → Y → Type 0) → Begins word false L → Begins word false M → Begins word false (L ▹ M)
both_begin word L M l m rows v h = ap (begins word) h.2 ∙ none_begin word h.0 h.1 (l h.0 v.0 h.3) (m h.1 v.1 h.4)

pub skip_begins : {X Y : Type 0} (word : List ℕ) (b : Bool) (L : List Placed → X → Type 0) (M : List Placed → Y → Type 0) → Begins word b (L ▹ M) → Begins word b (L ▸ M)
skip_begins word b L M l rows y h = l rows (h.0, y) h.1

pub change_begins : (word : List ℕ) → ((text : List ℕ) → starts_with nat_eq (codes "M " ++ text) word ≡ false) → ((text : List ℕ) → starts_with nat_eq (codes "D " ++ text) word ≡ false) → ((text : List ℕ) → starts_with nat_eq (codes "C " ++ text) word ≡ false) → ((text : List ℕ) → starts_with nat_eq (codes "R " ++ text) word ≡ false) → ((text : List ℕ) → starts_with nat_eq (codes "deleteall" ++ text) word ≡ false) → Begins word false change
change_begins word m d c r a rows x h = ap (begins word) h.2 ∙ which x.it h.0
  where
    which : (c : Change) (text : List ℕ) → starts_with nat_eq (change_word c ++ text) word ≡ false
    which (Set n w p) text = m text
    which (Delete p) text = d text
    which (Copy s p) text = c text
    which (Move s p) text = r text
    which Clear text = a text

pub ref_one : (text x y : List ℕ) → NamesRef text x → NamesRef text y → x ≡ y
ref_one text x y h k = sym h.0 ∙ k.0

tag_name_one : (text x y : List ℕ) → NamesTag text x → NamesTag text y → x ≡ y
tag_name_one text x y h k = sym h.0 ∙ k.0

person_one : (text x y : List ℕ) → NamesPerson text x → NamesPerson text y → x ≡ y
person_one text x y h k = sym h.0 ∙ k.0

encoding_one : (text x y : List ℕ) → NamesEncoding text x → NamesEncoding text y → x ≡ y
encoding_one text x y h k = sym h.0 ∙ k.0

unit_one : (P : List ℕ → Unit {0} → Type 0) (text : List ℕ) (x y : Unit {0}) → P text x → P text y → x ≡ y
unit_one P text x y h k = refl

pub mark_one : One mark
mark_one = line_one (codes "mark :") IsMark one_mark

pub oid_one : One oid
oid_one = line_one (codes "original-oid ") anything (unit_one anything)

from_one : One from
from_one = placed_one (codes "from ") NamesCommit one_commit

abbrev pub author : List Placed → List ℕ → Type 0
author = line (codes "author ") NamesPerson

abbrev pub committer : List Placed → List ℕ → Type 0
committer = line (codes "committer ") NamesPerson

abbrev pub encoding : List Placed → List ℕ → Type 0
encoding = line (codes "encoding ") NamesEncoding

abbrev pub tagger : List Placed → List ℕ → Type 0
tagger = line (codes "tagger ") NamesPerson

abbrev pub merge : List Placed → At Commitish → Type 0
merge = placed_line (codes "merge ") NamesCommit

pub blob_one : One blob
blob_one =
    let l1 : One (optional oid ▸ contents) = one_skip (optional oid) contents (one_optional (codes "original-oid ") oid contents (line_single (codes "original-oid ") anything) (line_begins (codes "original-oid ") (codes "original-oid ") true anything (λ t. refl)) (contents_begins (codes "original-oid ") (λ t. refl)) oid_one contents_one) in
    let n1 : Begins (codes "mark :") false (optional oid ▸ contents) = skip_begins (codes "mark :") false (optional oid) contents (optional_begins (codes "mark :") oid contents (line_begins (codes "mark :") (codes "original-oid ") false anything (λ t. refl)) (contents_begins (codes "mark :") (λ t. refl))) in
    let l2 : One (optional mark ▹ optional oid ▸ contents) = one_optional (codes "mark :") mark (optional oid ▸ contents) (line_single (codes "mark :") IsMark) (line_begins (codes "mark :") (codes "mark :") true IsMark (λ t. refl)) n1 mark_one l1 in
    one_skip (line (codes "blob") nothing) (optional mark ▹ optional oid ▸ contents) (one_then (line (codes "blob") nothing) (optional mark ▹ optional oid ▸ contents) (line_single (codes "blob") nothing) (line_one (codes "blob") nothing (unit_one nothing)) l2)

pub tag_one : One tag
tag_one =
    let r1 = optional tagger ▹ contents in
    let l1 : One (optional tagger ▹ contents) = one_optional (codes "tagger ") tagger contents (line_single (codes "tagger ") NamesPerson) (line_begins (codes "tagger ") (codes "tagger ") true NamesPerson (λ t. refl)) (contents_begins (codes "tagger ") (λ t. refl)) (line_one (codes "tagger ") NamesPerson person_one) contents_one in
    let n1 : Begins (codes "original-oid ") false (optional tagger ▹ contents) = optional_begins (codes "original-oid ") tagger contents (line_begins (codes "original-oid ") (codes "tagger ") false NamesPerson (λ t. refl)) (contents_begins (codes "original-oid ") (λ t. refl)) in
    let l2 : One (optional oid ▸ optional tagger ▹ contents) = one_skip (optional oid) (optional tagger ▹ contents) (one_optional (codes "original-oid ") oid (optional tagger ▹ contents) (line_single (codes "original-oid ") anything) (line_begins (codes "original-oid ") (codes "original-oid ") true anything (λ t. refl)) n1 oid_one l1) in
    let l3 : One (from ▹ optional oid ▸ optional tagger ▹ contents) = one_then from (optional oid ▸ optional tagger ▹ contents) (placed_single (codes "from ") NamesCommit) from_one l2 in
    let n3 : Begins (codes "mark :") false (from ▹ optional oid ▸ optional tagger ▹ contents) = single_begins (codes "mark :") false from (optional oid ▸ optional tagger ▹ contents) (placed_single (codes "from ") NamesCommit) (placed_begins (codes "mark :") (codes "from ") false NamesCommit (λ t. refl)) in
    let l4 : One (optional mark ▹ from ▹ optional oid ▸ optional tagger ▹ contents) = one_optional (codes "mark :") mark (from ▹ optional oid ▸ optional tagger ▹ contents) (line_single (codes "mark :") IsMark) (line_begins (codes "mark :") (codes "mark :") true IsMark (λ t. refl)) n3 mark_one l3 in
    one_then (line (codes "tag ") NamesTag) (optional mark ▹ from ▹ optional oid ▸ optional tagger ▹ contents) (line_single (codes "tag ") NamesTag) (line_one (codes "tag ") NamesTag tag_name_one) l4

abbrev pub after_data : List Placed → Option (At Commitish) × (List (At Commitish) × List (At Change)) → Type 0
after_data = optional from ▹ many merge ▹ many change

after_one : One after_data
after_one =
    let n1 : Begins (codes "merge ") false (many change) = many_begins (codes "merge ") change (change_begins (codes "merge ") (λ t. refl) (λ t. refl) (λ t. refl) (λ t. refl) (λ t. refl)) in
    let l1 : One (many merge ▹ many change) = one_many (codes "merge ") merge (many change) (placed_single (codes "merge ") NamesCommit) (placed_begins (codes "merge ") (codes "merge ") true NamesCommit (λ t. refl)) n1 (placed_one (codes "merge ") NamesCommit one_commit) changes_one in
    let n2 : Begins (codes "from ") false (many merge ▹ many change) = both_begin (codes "from ") (many merge) (many change) (many_begins (codes "from ") merge (placed_begins (codes "from ") (codes "merge ") false NamesCommit (λ t. refl))) (many_begins (codes "from ") change (change_begins (codes "from ") (λ t. refl) (λ t. refl) (λ t. refl) (λ t. refl) (λ t. refl))) in
    one_optional (codes "from ") from (many merge ▹ many change) (placed_single (codes "from ") NamesCommit) (placed_begins (codes "from ") (codes "from ") true NamesCommit (λ t. refl)) n2 from_one l1

pub commit_one : One commit
commit_one =
    let l3 : One (contents ▹ after_data) = one_then contents after_data contents_single contents_one after_one in
    let n3 : Begins (codes "encoding ") false (contents ▹ after_data) = single_begins (codes "encoding ") false contents after_data contents_single (contents_begins (codes "encoding ") (λ t. refl)) in
    let l4 : One (optional encoding ▹ contents ▹ after_data) = one_optional (codes "encoding ") encoding (contents ▹ after_data) (line_single (codes "encoding ") NamesEncoding) (line_begins (codes "encoding ") (codes "encoding ") true NamesEncoding (λ t. refl)) n3 (line_one (codes "encoding ") NamesEncoding encoding_one) l3 in
    let l5 : One (committer ▹ optional encoding ▹ contents ▹ after_data) = one_then committer (optional encoding ▹ contents ▹ after_data) (line_single (codes "committer ") NamesPerson) (line_one (codes "committer ") NamesPerson person_one) l4 in
    let n5 : (word : List ℕ) → ((t : List ℕ) → starts_with nat_eq (codes "committer " ++ t) word ≡ false) → Begins word false (committer ▹ optional encoding ▹ contents ▹ after_data) = λ word e. single_begins word false committer (optional encoding ▹ contents ▹ after_data) (line_single (codes "committer ") NamesPerson) (line_begins word (codes "committer ") false NamesPerson e) in
    let l6 : One (optional author ▹ committer ▹ optional encoding ▹ contents ▹ after_data) = one_optional (codes "author ") author (committer ▹ optional encoding ▹ contents ▹ after_data) (line_single (codes "author ") NamesPerson) (line_begins (codes "author ") (codes "author ") true NamesPerson (λ t. refl)) (n5 (codes "author ") (λ t. refl)) (line_one (codes "author ") NamesPerson person_one) l5 in
    let n6 : (word : List ℕ) → ((t : List ℕ) → starts_with nat_eq (codes "author " ++ t) word ≡ false) → ((t : List ℕ) → starts_with nat_eq (codes "committer " ++ t) word ≡ false) → Begins word false (optional author ▹ committer ▹ optional encoding ▹ contents ▹ after_data) = λ word a e. optional_begins word author (committer ▹ optional encoding ▹ contents ▹ after_data) (line_begins word (codes "author ") false NamesPerson a) (n5 word e) in
    let l7 : One (optional oid ▸ optional author ▹ committer ▹ optional encoding ▹ contents ▹ after_data) = one_skip (optional oid) (optional author ▹ committer ▹ optional encoding ▹ contents ▹ after_data) (one_optional (codes "original-oid ") oid (optional author ▹ committer ▹ optional encoding ▹ contents ▹ after_data) (line_single (codes "original-oid ") anything) (line_begins (codes "original-oid ") (codes "original-oid ") true anything (λ t. refl)) (n6 (codes "original-oid ") (λ t. refl) (λ t. refl)) oid_one l6) in
    let n7 : Begins (codes "mark :") false (optional oid ▸ optional author ▹ committer ▹ optional encoding ▹ contents ▹ after_data) = skip_begins (codes "mark :") false (optional oid) (optional author ▹ committer ▹ optional encoding ▹ contents ▹ after_data) (optional_begins (codes "mark :") oid (optional author ▹ committer ▹ optional encoding ▹ contents ▹ after_data) (line_begins (codes "mark :") (codes "original-oid ") false anything (λ t. refl)) (n6 (codes "mark :") (λ t. refl) (λ t. refl))) in
    let l8 : One (optional mark ▹ optional oid ▸ optional author ▹ committer ▹ optional encoding ▹ contents ▹ after_data) = one_optional (codes "mark :") mark (optional oid ▸ optional author ▹ committer ▹ optional encoding ▹ contents ▹ after_data) (line_single (codes "mark :") IsMark) (line_begins (codes "mark :") (codes "mark :") true IsMark (λ t. refl)) n7 mark_one l7 in
    one_then (line (codes "commit ") NamesRef) (optional mark ▹ optional oid ▸ optional author ▹ committer ▹ optional encoding ▹ contents ▹ after_data) (line_single (codes "commit ") NamesRef) (line_one (codes "commit ") NamesRef ref_one) l8
