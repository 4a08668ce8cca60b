-- No line of an item is left out, and none is `done`.
use Rattle.std.proofs.Common.{◌≡◌, ℕ, ◌+◌, inl, inr, Bool, true, false, not, ◌&&◌, nat_eq, if◌then◌else◌, List, [], ◌∷◌, ◌++◌, length, refl, sym, ◌∙◌, subst, arith, append_assoc, codes, Some, None}
use Rattle.std.specs.List.{AllByRecursion, starts_with}
use Rattle.swh_fastgrammar.specs.declared.command.Start.TheVariants.{Absent, NoTip, Of}
use Rattle.swh_fastgrammar.specs.declared.command.Dataref.{Dataref}
use Rattle.swh_fastgrammar.specs.declared.command.Dataref.TheVariants.{Mark, Inline, Hex}
use Rattle.swh_fastgrammar.specs.declared.command.Change.{Change}
use Rattle.swh_fastgrammar.specs.declared.command.Change.TheVariants.{Set, Delete, Copy, Move, Clear}
use Rattle.swh_fastgrammar.specs.declared.command.Command.{Command}
use Rattle.swh_fastgrammar.specs.declared.command.Command.TheVariants.{Blob, Commit, Tag, Reset}
use Rattle.swh_fastgrammar.specs.Fault.{BeginsRows, is_left_out}
use Rattle.swh_fastgrammar.specs.Grammar.{◌▹◌, ◌▸◌, optional, many, line, placed_line, nothing, anything, contents, mark, oid, blob, SetsTo, brings, change_word, SaysChange, change_brings, change, from, commit, tag, target, IsCommand, IsItem, IsWhole}
use Rattle.swh_fastgrammar.specs.Grammar.Item.{Says, Promise, Nothing}
use Rattle.swh_fastgrammar.specs.Row.{Row, row_text, IsData, Placed, placed, is_comment}
use Rattle.swh_fastgrammar.specs.Word.{IsMark, NamesRef, NamesTag, NamesPerson, NamesEncoding, NamesCommit, IsMode}

abbrev pub kept : List ℕ → Bool
kept line = not (is_left_out line) && not (starts_with nat_eq line (codes "done"))

abbrev pub AllKept : List Placed → Type 0
AllKept rows = AllByRecursion (λ (p : Placed). kept p.row.line ≡ true) rows

abbrev pub Keeps : {X : Type 0} → (List Placed → X → Type 0) → Type 0
Keeps {X} L = (rows : List Placed) (x : X) → L rows x → AllKept rows

all_append : (a b : List Placed) → AllKept a → AllKept b → AllKept (a ++ b)
all_append [] b h k = k
all_append (p ∷ a) b h k = (h.0, all_append a b h.1 k)

then_keeps : {X Y : Type 0} (L : List Placed → X → Type 0) (M : List Placed → Y → Type 0) → Keeps L → Keeps M → Keeps (L ▹ M)
then_keeps L M l m rows v h = subst AllKept (sym h.2) (all_append h.0 h.1 (l h.0 v.0 h.3) (m h.1 v.1 h.4))

skip_keeps : {X Y : Type 0} (L : List Placed → X → Type 0) (M : List Placed → Y → Type 0) → Keeps L → Keeps M → Keeps (L ▸ M)
skip_keeps L M l m rows y h = then_keeps L M l m rows (h.0, y) h.1

optional_keeps : {X : Type 0} (L : List Placed → X → Type 0) → Keeps L → Keeps (optional L)
optional_keeps L l rows None h = subst AllKept (sym h) tt
optional_keeps L l rows (Some x) h = l rows x h

pub many_keeps : {X : Type 0} (L : List Placed → X → Type 0) → Keeps L → Keeps (many L)
many_keeps L l rows [] h = subst AllKept (sym h) tt
many_keeps L l rows (x ∷ xs) h = subst AllKept (sym h.2) (all_append h.0 h.1 (l h.0 x h.3) (many_keeps L l h.1 xs h.4))

line_keeps : {X : Type 0} (front : List ℕ) (Says : List ℕ → X → Type 0) → ((text : List ℕ) (x : X) → Says text x → kept (front ++ text) ≡ true) → Keeps (line front Says)
line_keeps front Tells good rows x h = subst AllKept (sym h.2) (good h.1 x h.3, tt)

placed_keeps : {X : Type 0} (front : List ℕ) (Says : List ℕ → X → Type 0) → ((text : List ℕ) (x : X) → Says text x → kept (front ++ text) ≡ true) → Keeps (placed_line front Says)
placed_keeps front Tells good rows a h = subst AllKept (sym h.1) (good h.0 a.it h.2, tt)

data_kept : (r : Row) (bytes next : List ℕ) → IsData r bytes next → kept r.line ≡ true
data_kept r bytes next (inl d) = subst (λ (t : List ℕ). kept t ≡ true) (sym d.line) refl
data_kept r bytes next (inr d) = subst (λ (t : List ℕ). kept t ≡ true) (sym d.line) refl

contents_keeps : Keeps contents
contents_keeps rows bytes h = subst AllKept (sym h.2) (data_kept h.0.row bytes h.1 h.3, tt)

mark_keeps : Keeps mark
mark_keeps = line_keeps (codes "mark :") IsMark (λ text x h. refl)

oid_keeps : Keeps oid
oid_keeps = line_keeps (codes "original-oid ") anything (λ text x h. refl)

from_keeps : Keeps from
from_keeps = placed_keeps (codes "from ") NamesCommit (λ text x h. refl)

mode_kept : (text more : List ℕ) (m : ℕ) → IsMode text m → kept (codes "M " ++ (text ++ more)) ≡ true
mode_kept text more m (inl h) = subst (λ (t : List ℕ). kept (codes "M " ++ (t ++ more)) ≡ true) (sym h.0) refl
mode_kept text more m (inr (inl h)) = subst (λ (t : List ℕ). kept (codes "M " ++ (t ++ more)) ≡ true) (sym h.0) refl
mode_kept text more m (inr (inr (inl h))) = subst (λ (t : List ℕ). kept (codes "M " ++ (t ++ more)) ≡ true) (sym h.0) refl
mode_kept text more m (inr (inr (inr (inl h)))) = subst (λ (t : List ℕ). kept (codes "M " ++ (t ++ more)) ≡ true) (sym h.0) refl
mode_kept text more m (inr (inr (inr (inr h)))) = subst (λ (t : List ℕ). kept (codes "M " ++ (t ++ more)) ≡ true) (sym h.0) refl

set_kept : (text : List ℕ) (m : ℕ) (what : Dataref) (path : List ℕ) → SetsTo text m what path → kept (codes "M " ++ text) ≡ true
set_kept text m (Mark x) path h = let b = h.1 in subst (λ (t : List ℕ). kept (codes "M " ++ t) ≡ true) (sym b.2) (mode_kept b.0 (codes " :" ++ (b.1 ++ 32 ∷ h.0)) m b.3)
set_kept text m (Inline bytes) path h = let b = h.1 in subst (λ (t : List ℕ). kept (codes "M " ++ t) ≡ true) (sym b.1) (mode_kept b.0 (codes " inline " ++ h.0) m b.2)
set_kept text m (Hex id) path h = let b = h.1 in subst (λ (t : List ℕ). kept (codes "M " ++ t) ≡ true) (sym b.1) refl

brings_keeps : (what : Dataref) (rows : List Placed) → brings what rows → AllKept rows
brings_keeps (Mark x) rows h = subst AllKept (sym h) tt
brings_keeps (Inline bytes) rows h = contents_keeps rows bytes h
brings_keeps (Hex id) rows h = subst AllKept (sym h) tt

change_kept : (c : Change) (text : List ℕ) (rows : List Placed) → SaysChange text c → change_brings c rows → (kept (change_word c ++ text) ≡ true) × AllKept rows
change_kept (Set m what path) text rows h k = (set_kept text m what path h, brings_keeps what rows k)
change_kept (Delete path) text rows h k = (refl, subst AllKept (sym k) tt)
change_kept (Copy source path) text rows h k = (refl, subst AllKept (sym k) tt)
change_kept (Move source path) text rows h k = (refl, subst AllKept (sym k) tt)
change_kept Clear text rows h k = (refl, subst AllKept (sym k) tt)

change_keeps : Keeps change
change_keeps rows a h = subst AllKept (sym h.2) (change_kept a.it h.0 h.1 h.3 h.4)

blob_keeps : Keeps blob
blob_keeps =
    skip_keeps (line (codes "blob") nothing) (optional mark ▹ optional oid ▸ contents) (line_keeps (codes "blob") nothing (λ text x h. refl))
    (then_keeps (optional mark) (optional oid ▸ contents) (optional_keeps mark mark_keeps) (skip_keeps (optional oid) contents (optional_keeps oid oid_keeps) contents_keeps))

commit_keeps : Keeps commit
commit_keeps =
    let merges = placed_line (codes "merge ") NamesCommit in
    let encoding = line (codes "encoding ") NamesEncoding in
    let committer = line (codes "committer ") NamesPerson in
    let author = line (codes "author ") NamesPerson in
    let l1 : Keeps (many merges ▹ many change) = then_keeps (many merges) (many change) (many_keeps merges (placed_keeps (codes "merge ") NamesCommit (λ text x h. refl))) (many_keeps change change_keeps) in
    let l2 : Keeps (optional from ▹ many merges ▹ many change) = then_keeps (optional from) (many merges ▹ many change) (optional_keeps from from_keeps) l1 in
    let l3 : Keeps (contents ▹ optional from ▹ many merges ▹ many change) = then_keeps contents (optional from ▹ many merges ▹ many change) contents_keeps l2 in
    let l4 : Keeps (optional encoding ▹ contents ▹ optional from ▹ many merges ▹ many change) = then_keeps (optional encoding) (contents ▹ optional from ▹ many merges ▹ many change) (optional_keeps encoding (line_keeps (codes "encoding ") NamesEncoding (λ text x h. refl))) l3 in
    let l5 : Keeps (committer ▹ optional encoding ▹ contents ▹ optional from ▹ many merges ▹ many change) = then_keeps committer (optional encoding ▹ contents ▹ optional from ▹ many merges ▹ many change) (line_keeps (codes "committer ") NamesPerson (λ text x h. refl)) l4 in
    let l6 : Keeps (optional author ▹ committer ▹ optional encoding ▹ contents ▹ optional from ▹ many merges ▹ many change) = then_keeps (optional author) (committer ▹ optional encoding ▹ contents ▹ optional from ▹ many merges ▹ many change) (optional_keeps author (line_keeps (codes "author ") NamesPerson (λ text x h. refl))) l5 in
    let l7 : Keeps (optional oid ▸ optional author ▹ committer ▹ optional encoding ▹ contents ▹ optional from ▹ many merges ▹ many change) = skip_keeps (optional oid) (optional author ▹ committer ▹ optional encoding ▹ contents ▹ optional from ▹ many merges ▹ many change) (optional_keeps oid oid_keeps) l6 in
    let l8 : Keeps (optional mark ▹ optional oid ▸ optional author ▹ committer ▹ optional encoding ▹ contents ▹ optional from ▹ many merges ▹ many change) = then_keeps (optional mark) (optional oid ▸ optional author ▹ committer ▹ optional encoding ▹ contents ▹ optional from ▹ many merges ▹ many change) (optional_keeps mark mark_keeps) l7 in
    then_keeps (line (codes "commit ") NamesRef) (optional mark ▹ optional oid ▸ optional author ▹ committer ▹ optional encoding ▹ contents ▹ optional from ▹ many merges ▹ many change) (line_keeps (codes "commit ") NamesRef (λ text x h. refl)) l8

tag_keeps : Keeps tag
tag_keeps =
    let tagger = line (codes "tagger ") NamesPerson in
    let l1 : Keeps (optional tagger ▹ contents) = then_keeps (optional tagger) contents (optional_keeps tagger (line_keeps (codes "tagger ") NamesPerson (λ text x h. refl))) contents_keeps in
    let l2 : Keeps (optional oid ▸ optional tagger ▹ contents) = skip_keeps (optional oid) (optional tagger ▹ contents) (optional_keeps oid oid_keeps) l1 in
    let l3 : Keeps (from ▹ optional oid ▸ optional tagger ▹ contents) = then_keeps from (optional oid ▸ optional tagger ▹ contents) from_keeps l2 in
    let l4 : Keeps (optional mark ▹ from ▹ optional oid ▸ optional tagger ▹ contents) = then_keeps (optional mark) (from ▹ optional oid ▸ optional tagger ▹ contents) (optional_keeps mark mark_keeps) l3 in
    then_keeps (line (codes "tag ") NamesTag) (optional mark ▹ from ▹ optional oid ▸ optional tagger ▹ contents) (line_keeps (codes "tag ") NamesTag (λ text x h. refl)) l4

target_keeps : Keeps target
target_keeps rows Absent h = subst AllKept (sym h) tt
target_keeps rows NoTip h = subst AllKept (sym h.2) (refl, tt)
target_keeps rows (Of a) h = subst AllKept (sym h.1) (refl, tt)

command_keeps : (rows : List Placed) (c : Command) → IsCommand rows c → AllKept rows
command_keeps rows (Blob m bytes) h = blob_keeps rows (m, bytes) h
command_keeps rows (Commit branch m author committer encoding message parent merges changes) h = commit_keeps rows (branch, (m, (author, (committer, (encoding, (message, (h.0, (merges, changes)))))))) h.2
command_keeps rows (Tag branch m aim tagger message) h = tag_keeps rows (branch, (m, (aim, (tagger, message)))) h
command_keeps rows (Reset branch parent) h = then_keeps (line (codes "reset ") NamesRef) target (line_keeps (codes "reset ") NamesRef (λ text x h. refl)) target_keeps rows (branch, parent) h

pub item_keeps : Keeps IsItem
item_keeps rows (Says c) h = command_keeps rows c h
item_keeps rows Promise h = line_keeps (codes "feature done") nothing (λ text x e. subst (λ (t : List ℕ). kept (codes "feature done" ++ t) ≡ true) (sym e) refl) rows tt h
item_keeps rows Nothing (inl h) = line_keeps [] nothing (λ text x e. subst (λ (t : List ℕ). kept t ≡ true) (sym e) refl) rows tt h
item_keeps rows Nothing (inr (inl h)) = line_keeps (codes "checkpoint") nothing (λ text x e. refl) rows tt h
item_keeps rows Nothing (inr (inr h)) = line_keeps (codes "progress ") anything (λ text x e. refl) rows tt h

under : (b : Bool) (p : Placed) (rest : List Placed) → AllKept (if b then rest else p ∷ rest) → AllKept rest
under true p rest h = h
under false p rest h = h.1

over : (b : Bool) (p : Placed) (rest : List Placed) → AllKept (if b then rest else p ∷ rest) → b ≡ false → kept p.row.line ≡ true
over true p rest h e = absurd cc
over false p rest h e = h.0

pub row_kept : (at : ℕ) (rs : List Row) (r : Row) (more : List Row) → AllKept (placed at (rs ++ r ∷ more)) → is_comment r.line ≡ false → kept r.line ≡ true
row_kept at [] r more h e = over (is_comment r.line) (record { at = at; row = r }) (placed (at + length (row_text r)) more) h e
row_kept at (q ∷ rs) r more h e = row_kept (at + length (row_text q)) rs r more (under (is_comment q.line) (record { at = at; row = q }) (placed (at + length (row_text q)) (rs ++ r ∷ more)) h) e

-- no such row stands among a stream's rows
pub not_whole : (at : ℕ) (p : Bool) (rs : List Row) (r : Row) (more : List Row) (ending : List ℕ) (cs : List Command) → IsWhole at p (rs ++ r ∷ more) ending cs → is_comment r.line ≡ false → kept r.line ≡ false → ⊥
not_whole at p rs r more ending cs w e n =
    let k = row_kept at rs r more (many_keeps IsItem item_keeps (placed at (rs ++ r ∷ more)) w.items w.said) e in
    let t : true ≡ false = sym k ∙ n in
    absurd cc

-- nor among the rows that a stream begins with
pub not_begun : (at : ℕ) (p : Bool) (rs : List Row) (r : Row) (m : List Row) → BeginsRows at p (rs ++ r ∷ m) → is_comment r.line ≡ false → kept r.line ≡ false → ⊥
not_begun at p rs r m b e n = not_whole at p rs r (m ++ b.more) b.ending b.commands (subst (λ (t : List Row). IsWhole at p t b.ending b.commands) (append_assoc rs (r ∷ m) b.more) b.whole) e n

pub out_not_kept : (line : List ℕ) → is_left_out line ≡ true → kept line ≡ false
out_not_kept line e = first (is_left_out line) (not (starts_with nat_eq line (codes "done"))) e
  where
    first : (a b : Bool) → a ≡ true → not a && b ≡ false
    first true b e = refl
    first false b e = absurd cc

comment_first : (c : ℕ) (t : List ℕ) → is_comment (c ∷ t) ≡ true → c ≡ 35
comment_first c t e = grind arith

pub out_counts : (line : List ℕ) → is_left_out line ≡ true → is_comment line ≡ false
out_counts [] e = refl
out_counts (c ∷ t) e = decide (is_comment (c ∷ t)) refl
  where
    decide : (b : Bool) → is_comment (c ∷ t) ≡ b → b ≡ false
    decide false f = refl
    decide true f =
        let first = comment_first c t f in
        let n : is_left_out (35 ∷ t) ≡ true = subst (λ (d : ℕ). is_left_out (d ∷ t) ≡ true) first e in
        let u : false ≡ true = n in
        absurd cc
