-- A text is a stream of one list of commands at most.
use Rattle.std.proofs.Common.{◌≡◌, ℕ, inl, inr, Bool, true, false, nat_eq, if◌then◌else◌, List, [], ◌∷◌, ◌++◌, refl, sym, ap, ◌∙◌, subst, arith, codes, Option, Some, None}
use Rattle.std.specs.List.{AllByRecursion, list_any, starts_with}
use Rattle.swh_base.proofs.Splits.{absent, not_nil}
use Rattle.swh_fastgrammar.specs.declared.command.At.{At}
use Rattle.swh_fastgrammar.specs.declared.command.Commitish.{Commitish}
use Rattle.swh_fastgrammar.specs.declared.command.Start.{Start}
use Rattle.swh_fastgrammar.specs.declared.command.Start.TheVariants.{Absent, NoTip, Of}
use Rattle.swh_fastgrammar.specs.declared.command.Dataref.{Dataref}
use Rattle.swh_fastgrammar.specs.declared.command.Dataref.TheVariants.{Mark, Inline, Hex}
use Rattle.swh_fastgrammar.specs.declared.command.Change.{Change}
use Rattle.swh_fastgrammar.specs.declared.command.Change.TheVariants.{Set, Delete, Copy, Move, Clear}
use Rattle.swh_fastgrammar.specs.declared.command.Command.{Command}
use Rattle.swh_fastgrammar.specs.declared.command.Command.TheVariants.{Blob, Commit, Tag, Reset}
use Rattle.swh_fastgrammar.specs.Grammar.{◌▹◌, ◌▸◌, optional, many, line_at, line, placed_line, nothing, anything, contents, mark, oid, brings, change_word, change_brings, change, from, target, reset, start_of, Item, IsItem, commands_of, IsWhole, IsStream}
use Rattle.swh_fastgrammar.specs.Grammar.Item.{Says, Promise, Nothing}
use Rattle.swh_fastgrammar.specs.Row.{Row, text_of, AreRows, IsData, Placed, placed, is_comment}
use Rattle.swh_fastgrammar.specs.Word.{IsMark, NamesRef, NamesTag, NamesPerson, NamesEncoding, NamesCommit}
use Rattle.swh_fastgrammar.proofs.Words.{one_commit}
use Rattle.swh_fastgrammar.proofs.Rows.{goes_on, same_tail}
use Rattle.swh_fastgrammar.proofs.Kept.{kept, not_whole}
use Rattle.swh_fastgrammar.proofs.Faults.{append_nil, row_cut, row_line}
use Rattle.swh_fastgrammar.proofs.Parts.{One, one_then, line_one, placed_one, cons_cut}
use Rattle.swh_fastgrammar.proofs.Items.{line_single, ref_one, blob_one, tag_one, commit_one}

line_of : (p q : Placed) → p ∷ [] ≡ q ∷ [] → p.row.line ≡ q.row.line
line_of p q e = ap (λ (x : Placed). x.row.line) (cons_cut p q [] [] e).0

after_from : (a b : List ℕ) → codes "from " ++ a ≡ codes "from " ++ b → a ≡ b
after_from a b e = same_tail (codes "from ") a b e

target_one : One target
target_one rows Absent Absent h k = refl
target_one rows Absent NoTip h k = let n : [] ≡ line_at k.0 (codes "from " ++ k.1) ∷ [] = sym h ∙ k.2 in absurd cc
target_one rows Absent (Of b) h k = let n : [] ≡ line_at b.at (codes "from " ++ k.0) ∷ [] = sym h ∙ k.1 in absurd cc
target_one rows NoTip Absent h k = let n : [] ≡ line_at h.0 (codes "from " ++ h.1) ∷ [] = sym k ∙ h.2 in absurd cc
target_one rows NoTip NoTip h k = refl
target_one rows NoTip (Of b) h k = absurd (k.2.1 (after_from k.0 h.1 (line_of (line_at b.at (codes "from " ++ k.0)) (line_at h.0 (codes "from " ++ h.1)) (sym k.1 ∙ h.2)) ∙ h.3))
target_one rows (Of a) Absent h k = let n : [] ≡ line_at a.at (codes "from " ++ h.0) ∷ [] = sym k ∙ h.1 in absurd cc
target_one rows (Of a) NoTip h k = absurd (h.2.1 (after_from h.0 k.1 (line_of (line_at a.at (codes "from " ++ h.0)) (line_at k.0 (codes "from " ++ k.1)) (sym h.1 ∙ k.2)) ∙ k.3))
target_one rows (Of a) (Of b) h k = ap Of (placed_one (codes "from ") NamesCommit one_commit rows a b (h.0, h.1, h.2.0) (k.0, k.1, k.2.0))

reset_one : One reset
reset_one = one_then (line (codes "reset ") NamesRef) target (line_single (codes "reset ") NamesRef) (line_one (codes "reset ") NamesRef ref_one) target_one

-- what an item's first line begins with
abbrev pub tag_of_line : List ℕ → ℕ
tag_of_line line =
    if starts_with nat_eq line (codes "blob") then 1 else if starts_with nat_eq line (codes "commit ") then 2 else if starts_with nat_eq line (codes "tag ") then 3
    else if starts_with nat_eq line (codes "reset ") then 4 else if starts_with nat_eq line (codes "feature done") then 5 else 6

abbrev pub tag_of : Item → ℕ
tag_of (Says (Blob m bytes)) = 1
tag_of (Says (Commit branch m author committer encoding message parent merges changes)) = 2
tag_of (Says (Tag branch m aim tagger message)) = 3
tag_of (Says (Reset branch parent)) = 4
tag_of Promise = 5
tag_of Nothing = 6

-- lines that go on with an item
abbrev pub inner_words : List (List ℕ)
inner_words =
    codes "mark :" ∷ codes "original-oid " ∷ codes "author " ∷ codes "committer " ∷ codes "encoding " ∷ codes "data " ∷ codes "from " ∷ codes "merge "
    ∷ codes "M " ∷ codes "D " ∷ codes "C " ∷ codes "R " ∷ codes "deleteall" ∷ codes "tagger " ∷ []

abbrev pub is_inner : List ℕ → Bool
is_inner line = list_any (λ word. starts_with nat_eq line word) inner_words

abbrev pub AllInner : List Placed → Type 0
AllInner rows = AllByRecursion (λ (p : Placed). is_inner p.row.line ≡ true) rows

abbrev Inner : {X : Type 0} → (List Placed → X → Type 0) → Type 0
Inner {X} L = (rows : List Placed) (x : X) → L rows x → AllInner rows

all_append : (a b : List Placed) → AllInner a → AllInner b → AllInner (a ++ b)
all_append [] b h k = k
all_append (p ∷ a) b h k = (h.0, all_append a b h.1 k)

then_inner : {X Y : Type 0} (L : List Placed → X → Type 0) (M : List Placed → Y → Type 0) → Inner L → Inner M → Inner (L ▹ M)
then_inner L M l m rows v h = subst AllInner (sym h.2) (all_append h.0 h.1 (l h.0 v.0 h.3) (m h.1 v.1 h.4))

skip_inner : {X Y : Type 0} (L : List Placed → X → Type 0) (M : List Placed → Y → Type 0) → Inner L → Inner M → Inner (L ▸ M)
skip_inner L M l m rows y h = then_inner L M l m rows (h.0, y) h.1

optional_inner : {X : Type 0} (L : List Placed → X → Type 0) → Inner L → Inner (optional L)
optional_inner L l rows None h = subst AllInner (sym h) tt
optional_inner L l rows (Some x) h = l rows x h

many_inner : {X : Type 0} (L : List Placed → X → Type 0) → Inner L → Inner (many L)
many_inner L l rows [] h = subst AllInner (sym h) tt
many_inner L l rows (x ∷ xs) h = subst AllInner (sym h.2) (all_append h.0 h.1 (l h.0 x h.3) (many_inner L l h.1 xs h.4))

line_inner : {X : Type 0} (front : List ℕ) (Tells : List ℕ → X → Type 0) → ((text : List ℕ) → is_inner (front ++ text) ≡ true) → Inner (line front Tells)
line_inner front Tells good rows x h = subst AllInner (sym h.2) (good h.1, tt)

placed_inner : {X : Type 0} (front : List ℕ) (Tells : List ℕ → X → Type 0) → ((text : List ℕ) → is_inner (front ++ text) ≡ true) → Inner (placed_line front Tells)
placed_inner front Tells good rows a h = subst AllInner (sym h.1) (good h.0, tt)

data_inner : (r : Row) (bytes next : List ℕ) → IsData r bytes next → is_inner r.line ≡ true
data_inner r bytes next (inl d) = subst (λ (t : List ℕ). is_inner t ≡ true) (sym d.line) refl
data_inner r bytes next (inr d) = subst (λ (t : List ℕ). is_inner t ≡ true) (sym d.line) refl

contents_inner : Inner contents
contents_inner rows bytes h = subst AllInner (sym h.2) (data_inner h.0.row bytes h.1 h.3, tt)

mark_inner : Inner (optional mark)
mark_inner = optional_inner mark (line_inner (codes "mark :") IsMark (λ t. refl))

oid_inner : Inner (optional oid)
oid_inner = optional_inner oid (line_inner (codes "original-oid ") anything (λ t. refl))

from_inner : Inner from
from_inner = placed_inner (codes "from ") NamesCommit (λ t. refl)

brings_inner : (what : Dataref) (rows : List Placed) → brings what rows → AllInner rows
brings_inner (Mark x) rows h = subst AllInner (sym h) tt
brings_inner (Inline bytes) rows h = contents_inner rows bytes h
brings_inner (Hex id) rows h = subst AllInner (sym h) tt

change_rows : (c : Change) (text : List ℕ) (rows : List Placed) → change_brings c rows → (is_inner (change_word c ++ text) ≡ true) × AllInner rows
change_rows (Set m what path) text rows k = (refl, brings_inner what rows k)
change_rows (Delete path) text rows k = (refl, subst AllInner (sym k) tt)
change_rows (Copy source path) text rows k = (refl, subst AllInner (sym k) tt)
change_rows (Move source path) text rows k = (refl, subst AllInner (sym k) tt)
change_rows Clear text rows k = (refl, subst AllInner (sym k) tt)

change_inner : Inner change
change_inner rows a h = subst AllInner (sym h.2) (change_rows a.it h.0 h.1 h.4)

target_inner : Inner target
target_inner rows Absent h = subst AllInner (sym h) tt
target_inner rows NoTip h = subst AllInner (sym h.2) (refl, tt)
target_inner rows (Of a) h = subst AllInner (sym h.1) (refl, tt)

-- a first line, and lines that go on with the item
pub record Shape (rows : List Placed) (n : ℕ) : Type 0 where
  pub first : Placed
  pub others : List Placed
  pub rows_are : rows ≡ first ∷ others
  pub starts : is_inner first.row.line ≡ false
  pub kind : tag_of_line first.row.line ≡ n
  pub inner : AllInner others

shape_then : {X Y : Type 0} (n : ℕ) (front : List ℕ) (Tells : List ℕ → X → Type 0) (M : List Placed → Y → Type 0) → ((t : List ℕ) → is_inner (front ++ t) ≡ false) → ((t : List ℕ) → tag_of_line (front ++ t) ≡ n) → Inner M → (rows : List Placed) (v : X × Y) → (line front Tells ▹ M) rows v → Shape rows n
shape_then n front Tells M s t m rows v h = record {
  first = line_at h.3.0 (front ++ h.3.1);
  others = h.1;
  rows_are = h.2 ∙ ap (λ (r : List Placed). r ++ h.1) h.3.2;
  starts = s h.3.1;
  kind = t h.3.1;
  inner = m h.1 v.1 h.4;
}

shape_line : {X : Type 0} (n : ℕ) (front : List ℕ) (Tells : List ℕ → X → Type 0) → ((t : List ℕ) (x : X) → Tells t x → (is_inner (front ++ t) ≡ false) × (tag_of_line (front ++ t) ≡ n)) → (rows : List Placed) (x : X) → line front Tells rows x → Shape rows n
shape_line n front Tells s rows x h = record { first = line_at h.0 (front ++ h.1); others = []; rows_are = h.2; starts = (s h.1 x h.3).0; kind = (s h.1 x h.3).1; inner = tt }

commit_tail : Inner (optional mark ▹ optional oid ▸ optional (line (codes "author ") NamesPerson) ▹ line (codes "committer ") NamesPerson ▹ optional (line (codes "encoding ") NamesEncoding) ▹ contents ▹ optional from ▹ many (placed_line (codes "merge ") NamesCommit) ▹ many change)
commit_tail =
    let merges = placed_line (codes "merge ") NamesCommit in
    let encoding = line (codes "encoding ") NamesEncoding in
    let committer = line (codes "committer ") NamesPerson in
    let author = line (codes "author ") NamesPerson in
    let l1 : Inner (many merges ▹ many change) = then_inner (many merges) (many change) (many_inner merges (placed_inner (codes "merge ") NamesCommit (λ t. refl))) (many_inner change change_inner) in
    let l2 : Inner (optional from ▹ many merges ▹ many change) = then_inner (optional from) (many merges ▹ many change) (optional_inner from from_inner) l1 in
    let l3 : Inner (contents ▹ optional from ▹ many merges ▹ many change) = then_inner contents (optional from ▹ many merges ▹ many change) contents_inner l2 in
    let l4 : Inner (optional encoding ▹ contents ▹ optional from ▹ many merges ▹ many change) = then_inner (optional encoding) (contents ▹ optional from ▹ many merges ▹ many change) (optional_inner encoding (line_inner (codes "encoding ") NamesEncoding (λ t. refl))) l3 in
    let l5 : Inner (committer ▹ optional encoding ▹ contents ▹ optional from ▹ many merges ▹ many change) = then_inner committer (optional encoding ▹ contents ▹ optional from ▹ many merges ▹ many change) (line_inner (codes "committer ") NamesPerson (λ t. refl)) l4 in
    let l6 : Inner (optional author ▹ committer ▹ optional encoding ▹ contents ▹ optional from ▹ many merges ▹ many change) = then_inner (optional author) (committer ▹ optional encoding ▹ contents ▹ optional from ▹ many merges ▹ many change) (optional_inner author (line_inner (codes "author ") NamesPerson (λ t. refl))) l5 in
    let l7 : Inner (optional oid ▸ optional author ▹ committer ▹ optional encoding ▹ contents ▹ optional from ▹ many merges ▹ many change) = skip_inner (optional oid) (optional author ▹ committer ▹ optional encoding ▹ contents ▹ optional from ▹ many merges ▹ many change) oid_inner l6 in
    then_inner (optional mark) (optional oid ▸ optional author ▹ committer ▹ optional encoding ▹ contents ▹ optional from ▹ many merges ▹ many change) mark_inner l7

tag_tail : Inner (optional mark ▹ from ▹ optional oid ▸ optional (line (codes "tagger ") NamesPerson) ▹ contents)
tag_tail =
    let tagger = line (codes "tagger ") NamesPerson in
    let l1 : Inner (optional tagger ▹ contents) = then_inner (optional tagger) contents (optional_inner tagger (line_inner (codes "tagger ") NamesPerson (λ t. refl))) contents_inner in
    let l2 : Inner (optional oid ▸ optional tagger ▹ contents) = skip_inner (optional oid) (optional tagger ▹ contents) oid_inner l1 in
    let l3 : Inner (from ▹ optional oid ▸ optional tagger ▹ contents) = then_inner from (optional oid ▸ optional tagger ▹ contents) from_inner l2 in
    then_inner (optional mark) (from ▹ optional oid ▸ optional tagger ▹ contents) mark_inner l3

blob_tail : Inner (optional mark ▹ optional oid ▸ contents)
blob_tail = then_inner (optional mark) (optional oid ▸ contents) mark_inner (skip_inner (optional oid) contents oid_inner contents_inner)

pub shape : (rows : List Placed) (i : Item) → IsItem rows i → Shape rows (tag_of i)
shape rows (Says (Blob m bytes)) h = shape_then 1 (codes "blob") nothing (optional mark ▹ optional oid ▸ contents) (λ t. refl) (λ t. refl) blob_tail rows (h.0, (m, bytes)) h.1
shape rows (Says (Commit branch m author committer encoding message parent merges changes)) h =
    shape_then 2 (codes "commit ") NamesRef (optional mark ▹ optional oid ▸ optional (line (codes "author ") NamesPerson) ▹ line (codes "committer ") NamesPerson ▹ optional (line (codes "encoding ") NamesEncoding) ▹ contents ▹ optional from ▹ many (placed_line (codes "merge ") NamesCommit) ▹ many change)
    (λ t. refl) (λ t. refl) commit_tail rows (branch, (m, (author, (committer, (encoding, (message, (h.0, (merges, changes)))))))) h.2
shape rows (Says (Tag branch m aim tagger message)) h = shape_then 3 (codes "tag ") NamesTag (optional mark ▹ from ▹ optional oid ▸ optional (line (codes "tagger ") NamesPerson) ▹ contents) (λ t. refl) (λ t. refl) tag_tail rows (branch, (m, (aim, (tagger, message)))) h
shape rows (Says (Reset branch parent)) h = shape_then 4 (codes "reset ") NamesRef target (λ t. refl) (λ t. refl) target_inner rows (branch, parent) h
shape rows Promise h = shape_line 5 (codes "feature done") nothing (λ t x e. (refl, refl)) rows tt h
shape rows Nothing (inl h) = shape_line 6 [] nothing (λ t x e. (subst (λ (u : List ℕ). is_inner u ≡ false) (sym e) refl, subst (λ (u : List ℕ). tag_of_line u ≡ 6) (sym e) refl)) rows tt h
shape rows Nothing (inr (inl h)) = shape_line 6 (codes "checkpoint") nothing (λ t x e. (refl, refl)) rows tt h
shape rows Nothing (inr (inr h)) = shape_line 6 (codes "progress ") anything (λ t x e. (refl, refl)) rows tt h

same_tag : (rows : List Placed) (i j : Item) → IsItem rows i → IsItem rows j → tag_of i ≡ tag_of j
same_tag rows i j h k =
    let s = shape rows i h in
    let t = shape rows j k in
    sym s.kind ∙ ap (λ (p : Placed). tag_of_line p.row.line) (cons_cut s.first t.first s.others t.others (sym s.rows_are ∙ t.rows_are)).0 ∙ t.kind

abbrev commit_value : List ℕ × (Option ℕ × (Option (List ℕ) × (List ℕ × (Option (List ℕ) × (List ℕ × (Option (At Commitish) × (List (At Commitish) × List (At Change)))))))) → Item
commit_value v = Says (Commit v.0 v.1.0 v.1.1.0 v.1.1.1.0 v.1.1.1.1.0 v.1.1.1.1.1.0 (start_of v.1.1.1.1.1.1.0) v.1.1.1.1.1.1.1.0 v.1.1.1.1.1.1.1.1)

pub item_one : One IsItem
item_one rows (Says (Blob m bytes)) (Says (Blob m' bytes')) h k = ap (λ (v : Option ℕ × List ℕ). Says (Blob v.0 v.1)) (blob_one rows (m, bytes) (m', bytes') h k)
item_one rows (Says (Blob m bytes)) (Says (Commit b' m' a' c' e' g' p' s' z')) h k = let n : 1 ≡ 2 = same_tag rows (Says (Blob m bytes)) (Says (Commit b' m' a' c' e' g' p' s' z')) h k in absurd (omega (arith, n))
item_one rows (Says (Blob m bytes)) (Says (Tag b' m' a' t' g')) h k = let n : 1 ≡ 3 = same_tag rows (Says (Blob m bytes)) (Says (Tag b' m' a' t' g')) h k in absurd (omega (arith, n))
item_one rows (Says (Blob m bytes)) (Says (Reset b' p')) h k = let n : 1 ≡ 4 = same_tag rows (Says (Blob m bytes)) (Says (Reset b' p')) h k in absurd (omega (arith, n))
item_one rows (Says (Blob m bytes)) Promise h k = let n : 1 ≡ 5 = same_tag rows (Says (Blob m bytes)) Promise h k in absurd (omega (arith, n))
item_one rows (Says (Blob m bytes)) Nothing h k = let n : 1 ≡ 6 = same_tag rows (Says (Blob m bytes)) Nothing h k in absurd (omega (arith, n))
item_one rows (Says (Commit b m a c e g p s z)) (Says (Blob m' bytes')) h k = let n : 2 ≡ 1 = same_tag rows (Says (Commit b m a c e g p s z)) (Says (Blob m' bytes')) h k in absurd (omega (arith, n))
item_one rows (Says (Commit b m a c e g p s z)) (Says (Commit b' m' a' c' e' g' p' s' z')) h k = ap (λ (q : Start). Says (Commit b m a c e g q s z)) h.1 ∙ ap commit_value (commit_one rows (b, (m, (a, (c, (e, (g, (h.0, (s, z)))))))) (b', (m', (a', (c', (e', (g', (k.0, (s', z')))))))) h.2 k.2) ∙ ap (λ (q : Start). Says (Commit b' m' a' c' e' g' q s' z')) (sym k.1)
item_one rows (Says (Commit b m a c e g p s z)) (Says (Tag b' m' a' t' g')) h k = let n : 2 ≡ 3 = same_tag rows (Says (Commit b m a c e g p s z)) (Says (Tag b' m' a' t' g')) h k in absurd (omega (arith, n))
item_one rows (Says (Commit b m a c e g p s z)) (Says (Reset b' p')) h k = let n : 2 ≡ 4 = same_tag rows (Says (Commit b m a c e g p s z)) (Says (Reset b' p')) h k in absurd (omega (arith, n))
item_one rows (Says (Commit b m a c e g p s z)) Promise h k = let n : 2 ≡ 5 = same_tag rows (Says (Commit b m a c e g p s z)) Promise h k in absurd (omega (arith, n))
item_one rows (Says (Commit b m a c e g p s z)) Nothing h k = let n : 2 ≡ 6 = same_tag rows (Says (Commit b m a c e g p s z)) Nothing h k in absurd (omega (arith, n))
item_one rows (Says (Tag b m a t g)) (Says (Blob m' bytes')) h k = let n : 3 ≡ 1 = same_tag rows (Says (Tag b m a t g)) (Says (Blob m' bytes')) h k in absurd (omega (arith, n))
item_one rows (Says (Tag b m a t g)) (Says (Commit b' m' a' c' e' g' p' s' z')) h k = let n : 3 ≡ 2 = same_tag rows (Says (Tag b m a t g)) (Says (Commit b' m' a' c' e' g' p' s' z')) h k in absurd (omega (arith, n))
item_one rows (Says (Tag b m a t g)) (Says (Tag b' m' a' t' g')) h k = ap (λ (v : List ℕ × (Option ℕ × (At Commitish × (Option (List ℕ) × List ℕ)))). Says (Tag v.0 v.1.0 v.1.1.0 v.1.1.1.0 v.1.1.1.1)) (tag_one rows (b, (m, (a, (t, g)))) (b', (m', (a', (t', g')))) h k)
item_one rows (Says (Tag b m a t g)) (Says (Reset b' p')) h k = let n : 3 ≡ 4 = same_tag rows (Says (Tag b m a t g)) (Says (Reset b' p')) h k in absurd (omega (arith, n))
item_one rows (Says (Tag b m a t g)) Promise h k = let n : 3 ≡ 5 = same_tag rows (Says (Tag b m a t g)) Promise h k in absurd (omega (arith, n))
item_one rows (Says (Tag b m a t g)) Nothing h k = let n : 3 ≡ 6 = same_tag rows (Says (Tag b m a t g)) Nothing h k in absurd (omega (arith, n))
item_one rows (Says (Reset b p)) (Says (Blob m' bytes')) h k = let n : 4 ≡ 1 = same_tag rows (Says (Reset b p)) (Says (Blob m' bytes')) h k in absurd (omega (arith, n))
item_one rows (Says (Reset b p)) (Says (Commit b' m' a' c' e' g' p' s' z')) h k = let n : 4 ≡ 2 = same_tag rows (Says (Reset b p)) (Says (Commit b' m' a' c' e' g' p' s' z')) h k in absurd (omega (arith, n))
item_one rows (Says (Reset b p)) (Says (Tag b' m' a' t' g')) h k = let n : 4 ≡ 3 = same_tag rows (Says (Reset b p)) (Says (Tag b' m' a' t' g')) h k in absurd (omega (arith, n))
item_one rows (Says (Reset b p)) (Says (Reset b' p')) h k = ap (λ (v : List ℕ × Start). Says (Reset v.0 v.1)) (reset_one rows (b, p) (b', p') h k)
item_one rows (Says (Reset b p)) Promise h k = let n : 4 ≡ 5 = same_tag rows (Says (Reset b p)) Promise h k in absurd (omega (arith, n))
item_one rows (Says (Reset b p)) Nothing h k = let n : 4 ≡ 6 = same_tag rows (Says (Reset b p)) Nothing h k in absurd (omega (arith, n))
item_one rows Promise (Says (Blob m' bytes')) h k = let n : 5 ≡ 1 = same_tag rows Promise (Says (Blob m' bytes')) h k in absurd (omega (arith, n))
item_one rows Promise (Says (Commit b' m' a' c' e' g' p' s' z')) h k = let n : 5 ≡ 2 = same_tag rows Promise (Says (Commit b' m' a' c' e' g' p' s' z')) h k in absurd (omega (arith, n))
item_one rows Promise (Says (Tag b' m' a' t' g')) h k = let n : 5 ≡ 3 = same_tag rows Promise (Says (Tag b' m' a' t' g')) h k in absurd (omega (arith, n))
item_one rows Promise (Says (Reset b' p')) h k = let n : 5 ≡ 4 = same_tag rows Promise (Says (Reset b' p')) h k in absurd (omega (arith, n))
item_one rows Promise Promise h k = refl
item_one rows Promise Nothing h k = let n : 5 ≡ 6 = same_tag rows Promise Nothing h k in absurd (omega (arith, n))
item_one rows Nothing (Says (Blob m' bytes')) h k = let n : 6 ≡ 1 = same_tag rows Nothing (Says (Blob m' bytes')) h k in absurd (omega (arith, n))
item_one rows Nothing (Says (Commit b' m' a' c' e' g' p' s' z')) h k = let n : 6 ≡ 2 = same_tag rows Nothing (Says (Commit b' m' a' c' e' g' p' s' z')) h k in absurd (omega (arith, n))
item_one rows Nothing (Says (Tag b' m' a' t' g')) h k = let n : 6 ≡ 3 = same_tag rows Nothing (Says (Tag b' m' a' t' g')) h k in absurd (omega (arith, n))
item_one rows Nothing (Says (Reset b' p')) h k = let n : 6 ≡ 4 = same_tag rows Nothing (Says (Reset b' p')) h k in absurd (omega (arith, n))
item_one rows Nothing Promise h k = let n : 6 ≡ 5 = same_tag rows Nothing Promise h k in absurd (omega (arith, n))
item_one rows Nothing Nothing h k = refl

-- What follows does not go on with an item.
abbrev pub Stops : List Placed → Type 0
Stops [] = Unit {0}
Stops (p ∷ rows) = is_inner p.row.line ≡ false

apart : (x p : Placed) → x ≡ p → is_inner x.row.line ≡ false → is_inner p.row.line ≡ true → ⊥
apart x p e f t = let d : true ≡ false = sym t ∙ ap (λ (y : Placed). is_inner y.row.line) (sym e) ∙ f in absurd cc

pub span : (a b r q : List Placed) → AllInner a → AllInner b → Stops r → Stops q → a ++ r ≡ b ++ q → (a ≡ b) × (r ≡ q)
span [] [] r q h k sr sq e = (refl, e)
span [] (p ∷ b) [] q h k sr sq e = absurd cc
span [] (p ∷ b) (x ∷ r) q h k sr sq e = absurd (apart x p (cons_cut x p r (b ++ q) e).0 sr k.0)
span (p ∷ a) [] r [] h k sr sq e = absurd cc
span (p ∷ a) [] r (x ∷ q) h k sr sq e = absurd (apart x p (sym (cons_cut p x (a ++ r) q e).0) sq h.0)
span (p ∷ a) (x ∷ b) r q h k sr sq e =
    let cut = cons_cut p x (a ++ r) (b ++ q) e in
    let more = span a b r q h.1 k.1 sr sq cut.1 in
    (ap (λ (t : Placed). t ∷ a) cut.0 ∙ ap (λ (t : List Placed). x ∷ t) more.0, more.1)

pub items_stop : (rows : List Placed) (is : List Item) → many IsItem rows is → Stops rows
items_stop rows [] h = subst Stops (sym h) tt
items_stop rows (i ∷ is) h = let s = shape h.0 i h.3 in subst Stops (sym (h.2 ∙ ap (λ (t : List Placed). t ++ h.1) s.rows_are)) s.starts

pub some_item : (a b : List Placed) (i : Item) → IsItem a i → [] ≡ a ++ b → ⊥
some_item a b i h e = let s = shape a i h in let n : [] ≡ s.first ∷ (s.others ++ b) = e ∙ ap (λ (t : List Placed). t ++ b) s.rows_are in absurd cc

pub one_items : (rows : List Placed) (is js : List Item) → many IsItem rows is → many IsItem rows js → is ≡ js
one_items rows [] [] h k = refl
one_items rows [] (j ∷ js) h k = absurd (some_item k.0 k.1 j k.3 (sym h ∙ k.2))
one_items rows (i ∷ is) [] h k = absurd (some_item h.0 h.1 i h.3 (sym k ∙ h.2))
one_items rows (i ∷ is) (j ∷ js) h k =
    let s = shape h.0 i h.3 in
    let t = shape k.0 j k.3 in
    let whole : s.first ∷ (s.others ++ h.1) ≡ t.first ∷ (t.others ++ k.1) = ap (λ (r : List Placed). r ++ h.1) (sym s.rows_are) ∙ sym h.2 ∙ k.2 ∙ ap (λ (r : List Placed). r ++ k.1) t.rows_are in
    let cut = cons_cut s.first t.first (s.others ++ h.1) (t.others ++ k.1) whole in
    let both = span s.others t.others h.1 k.1 s.inner t.inner (items_stop h.1 is h.4) (items_stop k.1 js k.4) cut.1 in
    let fronts : h.0 ≡ k.0 = s.rows_are ∙ ap (λ (r : Placed). r ∷ s.others) cut.0 ∙ ap (λ (r : List Placed). t.first ∷ r) both.0 ∙ sym t.rows_are in
    let head = item_one k.0 i j (subst (λ r. IsItem r i) fronts h.3) k.3 in
    let more = one_items k.1 is js (subst (λ r. many IsItem r is) both.1 h.4) k.4 in
    ap (λ (x : Item). x ∷ is) head ∙ ap (λ (xs : List Item). j ∷ xs) more

-- one stream's rows go on from the other's
one_way : (at : ℕ) (p : Bool) (text : List ℕ) (cs ds : List Command) (s : IsStream at p text cs) (t : IsStream at p text ds) (more : List Row) → t.rows ≡ s.rows ++ more → s.ending ≡ text_of more ++ t.ending → AreRows more t.ending → cs ≡ ds
one_way at p text cs ds s t [] e g a =
    let rows : t.rows ≡ s.rows = e ∙ append_nil s.rows in
    let same = one_items (placed at s.rows) s.whole.items t.whole.items s.whole.said (subst (λ (r : List Row). many IsItem (placed at r) t.whole.items) rows t.whole.said) in
    s.whole.these ∙ ap commands_of same ∙ sym t.whole.these
one_way at p text cs ds s t (r ∷ m) e g a = elim s.whole.ends [
  | inl n ↦ absurd (not_nil r.line (r.raw ++ (text_of m ++ t.ending)) 10 (sym (row_cut r m t.ending) ∙ sym g ∙ n.0))
  | inr n ↦
      let same = row_line r m (codes "done") n.0 t.ending (absent 10 (codes "done") refl) a (sym n.1 ∙ g) in
      absurd (not_whole at p s.rows r m t.ending ds (subst (λ (x : List Row). IsWhole at p x t.ending ds) e t.whole) (ap is_comment same) (ap kept same))
]

pub one_reading : (at : ℕ) (p : Bool) (text : List ℕ) (cs ds : List Command) → IsStream at p text cs → IsStream at p text ds → cs ≡ ds
one_reading at p text cs ds s t =
    elim (goes_on s.rows t.rows s.ending t.ending s.whole.good t.whole.good (sym s.spelled ∙ t.spelled)) [
      | inl g ↦ one_way at p text cs ds s t g.0 g.1 g.2 g.3
      | inr g ↦ sym (one_way at p text ds cs t s (g.0 ∷ g.1) g.2 g.3 g.4)
    ]
