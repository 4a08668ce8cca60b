-- A part of the grammar says one thing of the same rows, where no later part begins with its word.
use Rattle.std.proofs.Common.{◌≡◌, ◌≢◌, ℕ, Bool, true, false, nat_eq, List, [], ◌∷◌, ◌++◌, Contains, refl, sym, ap, ◌∙◌, subst, arith, append_assoc, codes, Option, Some, None}
use Rattle.std.specs.List.{starts_with}
use Rattle.swh_base.proofs.Splits.{first_split, sized_split, absent}
use Rattle.swh_fastlex.specs.Path.{SpellsPath, NamesPath}
use Rattle.swh_fastlex.proofs.Pieces.{one_spelling}
use Rattle.swh_fastgrammar.specs.declared.command.At.{At}
use Rattle.swh_fastgrammar.specs.declared.command.Dataref.{Dataref}
use Rattle.swh_fastgrammar.specs.declared.command.Dataref.TheVariants.{Mark, Inline, Hex}
use Rattle.swh_fastgrammar.specs.declared.command.Change.{Change}
use Rattle.swh_fastgrammar.specs.declared.command.Change.TheVariants.{Set, Delete, Copy, Move, Clear}
use Rattle.swh_fastgrammar.specs.Grammar.{◌▹◌, ◌▸◌, optional, many, line_at, line, placed_line, contents, BeginsSet, SetsTo, brings, IsPair, change_word, SaysChange, change_brings, change}
use Rattle.swh_fastgrammar.specs.Row.{Placed, IsData}
use Rattle.swh_fastgrammar.specs.Word.{IsMark, IsMode, SpellsId}
use Rattle.swh_fastgrammar.proofs.Rows.{same_tail, one_contents}
use Rattle.swh_fastgrammar.proofs.Words.{one_path, one_id, mode-no_link, mode-no_space, one_mode, one_mark, number-no_space, same_id_length}

abbrev first : List ℕ → ℕ
first [] = 0
first (c ∷ cs) = c

abbrev tail : {X : Type 0} → List X → List X
tail [] = []
tail (c ∷ cs) = cs

abbrev pub One : {X : Type 0} → (List Placed → X → Type 0) → Type 0
One {X} L = (rows : List Placed) (x y : X) → L rows x → L rows y → x ≡ y

-- one row
abbrev pub Single : {X : Type 0} → (List Placed → X → Type 0) → Type 0
Single {X} L = (rows : List Placed) (x : X) → L rows x → (p : Placed) × (rows ≡ p ∷ [])

-- whether the first row's line begins with the word
abbrev pub begins : List ℕ → List Placed → Bool
begins w [] = false
begins w (p ∷ rows) = starts_with nat_eq p.row.line w

abbrev pub Begins : {X : Type 0} → List ℕ → Bool → (List Placed → X → Type 0) → Type 0
Begins {X} w b L = (rows : List Placed) (x : X) → L rows x → begins w rows ≡ b

pub same_pair : {X Y : Type 0} (v w : X × Y) → v.0 ≡ w.0 → v.1 ≡ w.1 → v ≡ w
same_pair {X} {Y} v w e f = ap (λ (x : X). let p : X × Y = (x, v.1) in p) e ∙ ap (λ (y : Y). let p : X × Y = (w.0, y) in p) f

-- the same rows cut after the first
pub cons_cut : (p q : Placed) (a b : List Placed) → p ∷ a ≡ q ∷ b → (p ≡ q) × (a ≡ b)
cons_cut p q a b e = (cc, ap tail e)

-- two first rows and what follows each
pub single_cut : {X Y : Type 0} (L : List Placed → X → Type 0) (M : List Placed → Y → Type 0) → Single L → Single M → (f b g c : List Placed) (x : X) (y : Y) → L f x → M g y → f ++ b ≡ g ++ c → (f ≡ g) × (b ≡ c)
single_cut L M s t f b g c x y h k e =
    let p = s f x h in
    let q = t g y k in
    let cut = cons_cut p.0 q.0 b c (ap (λ (r : List Placed). r ++ b) (sym p.1) ∙ e ∙ ap (λ (r : List Placed). r ++ c) q.1) in
    (p.1 ∙ ap (λ (r : Placed). r ∷ []) cut.0 ∙ sym q.1, cut.1)

pub one_then : {X Y : Type 0} (L : List Placed → X → Type 0) (M : List Placed → Y → Type 0) → Single L → One L → One M → One (L ▹ M)
one_then L M s l m rows v w h k =
    let cut = single_cut L L s s h.0 h.1 k.0 k.1 v.0 w.0 h.3 k.3 (sym h.2 ∙ k.2) in
    same_pair v w (l k.0 v.0 w.0 (subst (λ r. L r v.0) cut.0 h.3) k.3) (m k.1 v.1 w.1 (subst (λ r. M r v.1) cut.1 h.4) k.4)

-- a part that begins with a word, and rows that do not
clash : {X Y : Type 0} (word : List ℕ) (L : List Placed → X → Type 0) (M : List Placed → Y → Type 0) → Single L → Begins word true L → Begins word false M → (f b c : List Placed) (x : X) (y : Y) → L f x → M b y → b ≡ f ++ c → ⊥
clash word L M s t n f b c x y h k e =
    let p = s f x h in
    let u : begins word (p.0 ∷ []) ≡ true = ap (begins word) (sym p.1) ∙ t f x h in
    let v : begins word (p.0 ∷ c) ≡ false = ap (begins word) (ap (λ (r : List Placed). r ++ c) (sym p.1) ∙ sym e) ∙ n b y k in
    let d : true ≡ false = sym u ∙ v in
    absurd cc

pub one_optional : {X Y : Type 0} (word : List ℕ) (L : List Placed → X → Type 0) (M : List Placed → Y → Type 0) → Single L → Begins word true L → Begins word false M → One L → One M → One (optional L ▹ M)
one_optional {X} {Y} word L M s t n l m rows v w h k = let r = parts v.0 w.0 h.0 h.1 k.0 k.1 v.1 w.1 h.3 h.4 k.3 k.4 (sym h.2 ∙ k.2) in same_pair v w r.0 r.1
  where
    parts : (x y : Option X) (f b g c : List Placed) (u v : Y) → optional L f x → M b u → optional L g y → M c v → f ++ b ≡ g ++ c → (x ≡ y) × (u ≡ v)
    parts None None f b g c u v hf hb kg kc e = (refl, m c u v (subst (λ r. M r u) (ap (λ (r : List Placed). r ++ b) (sym hf) ∙ e ∙ ap (λ (r : List Placed). r ++ c) kg) hb) kc)
    parts None (Some y) f b g c u v hf hb kg kc e = absurd (clash word L M s t n g b c y u kg hb (ap (λ (r : List Placed). r ++ b) (sym hf) ∙ e))
    parts (Some x) None f b g c u v hf hb kg kc e = absurd (clash word L M s t n f c b x v hf kc (ap (λ (r : List Placed). r ++ c) (sym kg) ∙ sym e))
    parts (Some x) (Some y) f b g c u v hf hb kg kc e =
        let cut = single_cut L L s s f b g c x y hf kg e in
        (ap Some (l g x y (subst (λ r. L r x) cut.0 hf) kg), m c u v (subst (λ r. M r u) cut.1 hb) kc)

pub one_skip : {X Y : Type 0} (L : List Placed → X → Type 0) (M : List Placed → Y → Type 0) → One (L ▹ M) → One (L ▸ M)
one_skip {X} {Y} L M l rows x y h k = ap (λ (v : X × Y). v.1) (l rows (h.0, x) (k.0, y) h.1 k.1)

pub one_many : {X Y : Type 0} (word : List ℕ) (L : List Placed → X → Type 0) (M : List Placed → Y → Type 0) → Single L → Begins word true L → Begins word false M → One L → One M → One (many L ▹ M)
one_many {X} {Y} word L M s t n l m rows v w h k = let r = parts v.0 w.0 h.0 h.1 k.0 k.1 v.1 w.1 h.3 h.4 k.3 k.4 (sym h.2 ∙ k.2) in same_pair v w r.0 r.1
  where
    parts : (xs ys : List X) (f b g c : List Placed) (u v : Y) → many L f xs → M b u → many L g ys → M c v → f ++ b ≡ g ++ c → (xs ≡ ys) × (u ≡ v)
    parts [] [] f b g c u v hf hb kg kc e = (refl, m c u v (subst (λ r. M r u) (ap (λ (r : List Placed). r ++ b) (sym hf) ∙ e ∙ ap (λ (r : List Placed). r ++ c) kg) hb) kc)
    parts [] (y ∷ ys) f b g c u v hf hb kg kc e = absurd (clash word L M s t n kg.0 b (kg.1 ++ c) y u kg.3 hb (ap (λ (r : List Placed). r ++ b) (sym hf) ∙ e ∙ ap (λ (r : List Placed). r ++ c) kg.2 ∙ append_assoc kg.0 kg.1 c))
    parts (x ∷ xs) [] f b g c u v hf hb kg kc e = absurd (clash word L M s t n hf.0 c (hf.1 ++ b) x v hf.3 kc (ap (λ (r : List Placed). r ++ c) (sym kg) ∙ sym e ∙ ap (λ (r : List Placed). r ++ b) hf.2 ∙ append_assoc hf.0 hf.1 b))
    parts (x ∷ xs) (y ∷ ys) f b g c u v hf hb kg kc e =
        let cut = single_cut L L s s hf.0 (hf.1 ++ b) kg.0 (kg.1 ++ c) x y hf.3 kg.3 (sym (append_assoc hf.0 hf.1 b) ∙ ap (λ (r : List Placed). r ++ b) (sym hf.2) ∙ e ∙ ap (λ (r : List Placed). r ++ c) kg.2 ∙ append_assoc kg.0 kg.1 c) in
        let head = l kg.0 x y (subst (λ r. L r x) cut.0 hf.3) kg.3 in
        let more = parts xs ys hf.1 b kg.1 c u v hf.4 hb kg.4 kc cut.1 in
        (ap (λ (z : X). z ∷ xs) head ∙ ap (λ (zs : List X). y ∷ zs) more.0, more.1)

pub line_one : {X : Type 0} (front : List ℕ) (Tells : List ℕ → X → Type 0) → ((text : List ℕ) (x y : X) → Tells text x → Tells text y → x ≡ y) → One (line front Tells)
line_one front Tells one rows x y h k =
    let lines : front ++ h.1 ≡ front ++ k.1 = ap (λ (p : Placed). p.row.line) (cons_cut (line_at h.0 (front ++ h.1)) (line_at k.0 (front ++ k.1)) [] [] (sym h.2 ∙ k.2)).0 in
    one k.1 x y (subst (λ (t : List ℕ). Tells t x) (same_tail front h.1 k.1 lines) h.3) k.3

pub same_at : {X : Type 0} (a b : At X) → a.at ≡ b.at → a.it ≡ b.it → a ≡ b
same_at {X} a b e f = ap (λ (n : ℕ). let q : At X = record { at = n; it = a.it } in q) e ∙ ap (λ (x : X). let q : At X = record { at = b.at; it = x } in q) f

pub placed_one : {X : Type 0} (front : List ℕ) (Tells : List ℕ → X → Type 0) → ((text : List ℕ) (x y : X) → Tells text x → Tells text y → x ≡ y) → One (placed_line front Tells)
placed_one front Tells one rows x y h k =
    let same = (cons_cut (line_at x.at (front ++ h.0)) (line_at y.at (front ++ k.0)) [] [] (sym h.1 ∙ k.1)).0 in
    let lines : front ++ h.0 ≡ front ++ k.0 = ap (λ (p : Placed). p.row.line) same in
    same_at x y (ap (λ (p : Placed). p.at) same) (one k.0 x.it y.it (subst (λ (t : List ℕ). Tells t x.it) (same_tail front h.0 k.0 lines) h.2) k.2)

pub contents_one : One contents
contents_one rows x y h k =
    let same = (cons_cut h.0 k.0 [] [] (sym h.2 ∙ k.2)).0 in
    one_contents k.0.row x y h.1 k.1 (subst (λ (p : Placed). IsData p.row x h.1) same h.3) k.3

-- two changes, cut where what follows each is left
abbrev SameChange : Change → Change → List Placed → List Placed → List Placed → List Placed → Type 0
SameChange x y a b r q = (x ≡ y) × (a ≡ b) × (r ≡ q)

no_rows : (a b r q : List Placed) → a ≡ [] → b ≡ [] → a ++ r ≡ b ++ q → (a ≡ b) × (r ≡ q)
no_rows a b r q h k e = (h ∙ sym k, ap (λ (t : List Placed). t ++ r) (sym h) ∙ e ∙ ap (λ (t : List Placed). t ++ q) k)

contents_single : Single contents
contents_single rows x h = (h.0, h.2)

pub link_plain : Contains (codes "160000") 32 → ⊥
link_plain = absent 32 (codes "160000") refl

set_same : (m n : ℕ) (v w : Dataref) (p q : List ℕ) → m ≡ n → v ≡ w → p ≡ q → Set m v p ≡ Set n w q
set_same m n v w p q e f g = ap (λ (k : ℕ). Set k v p) e ∙ ap (λ (d : Dataref). Set n d p) f ∙ ap (λ (t : List ℕ). Set n w t) g

-- the same, but for the bytes that follow
abbrev pub SameRef : Dataref → Dataref → Type 0
SameRef (Mark x) (Mark y) = x ≡ y
SameRef (Mark x) (Inline y) = ⊥
SameRef (Mark x) (Hex y) = ⊥
SameRef (Inline x) (Mark y) = ⊥
SameRef (Inline x) (Inline y) = Unit {0}
SameRef (Inline x) (Hex y) = ⊥
SameRef (Hex x) (Mark y) = ⊥
SameRef (Hex x) (Inline y) = ⊥
SameRef (Hex x) (Hex y) = x ≡ y

-- What stands before a set path says one mode and one thing, and ends at one place.
pub begins_one : (text : List ℕ) (m n : ℕ) (v w : Dataref) (x y : List ℕ) → BeginsSet text m v x → BeginsSet text n w y → (m ≡ n) × SameRef v w × (x ≡ y)
begins_one text m n (Mark i) (Mark j) x y h k =
    let modes = first_split 32 h.0 k.0 (58 ∷ (h.1 ++ 32 ∷ x)) (58 ∷ (k.1 ++ 32 ∷ y)) (mode-no_space h.0 m h.3) (mode-no_space k.0 n k.3) (sym h.2 ∙ k.2) in
    let marks = first_split 32 h.1 k.1 x y (number-no_space h.1 i h.4.number) (number-no_space k.1 j k.4.number) (ap tail modes.1) in
    (one_mode k.0 m n (subst (λ u. IsMode u m) modes.0 h.3) k.3, one_mark k.1 i j (subst (λ u. IsMark u i) marks.0 h.4) k.4, marks.1)
begins_one text m n (Mark i) (Inline j) x y h k =
    let modes = first_split 32 h.0 k.0 (58 ∷ (h.1 ++ 32 ∷ x)) (codes "inline " ++ y) (mode-no_space h.0 m h.3) (mode-no_space k.0 n k.2) (sym h.2 ∙ k.1) in
    let c : 58 ≡ 105 = ap first modes.1 in absurd (omega (arith, c))
begins_one text m n (Inline i) (Mark j) x y h k =
    let modes = first_split 32 h.0 k.0 (codes "inline " ++ x) (58 ∷ (k.1 ++ 32 ∷ y)) (mode-no_space h.0 m h.2) (mode-no_space k.0 n k.3) (sym h.1 ∙ k.2) in
    let c : 105 ≡ 58 = ap first modes.1 in absurd (omega (arith, c))
begins_one text m n (Mark i) (Hex j) x y h k =
    absurd (mode-no_link h.0 m h.3 (first_split 32 h.0 (codes "160000") (58 ∷ (h.1 ++ 32 ∷ x)) (k.0 ++ 32 ∷ y) (mode-no_space h.0 m h.3) link_plain (sym h.2 ∙ k.1)).0)
begins_one text m n (Hex i) (Mark j) x y h k =
    absurd (mode-no_link k.0 n k.3 (first_split 32 k.0 (codes "160000") (58 ∷ (k.1 ++ 32 ∷ y)) (h.0 ++ 32 ∷ x) (mode-no_space k.0 n k.3) link_plain (sym k.2 ∙ h.1)).0)
begins_one text m n (Inline i) (Inline j) x y h k =
    let modes = first_split 32 h.0 k.0 (codes "inline " ++ x) (codes "inline " ++ y) (mode-no_space h.0 m h.2) (mode-no_space k.0 n k.2) (sym h.1 ∙ k.1) in
    (one_mode k.0 m n (subst (λ u. IsMode u m) modes.0 h.2) k.2, tt, same_tail (codes "inline ") x y modes.1)
begins_one text m n (Inline i) (Hex j) x y h k =
    absurd (mode-no_link h.0 m h.2 (first_split 32 h.0 (codes "160000") (codes "inline " ++ x) (k.0 ++ 32 ∷ y) (mode-no_space h.0 m h.2) link_plain (sym h.1 ∙ k.1)).0)
begins_one text m n (Hex i) (Inline j) x y h k =
    absurd (mode-no_link k.0 n k.2 (first_split 32 k.0 (codes "160000") (codes "inline " ++ y) (h.0 ++ 32 ∷ x) (mode-no_space k.0 n k.2) link_plain (sym k.1 ∙ h.1)).0)
begins_one text m n (Hex i) (Hex j) x y h k =
    let after = same_tail (codes "160000 ") (h.0 ++ 32 ∷ x) (k.0 ++ 32 ∷ y) (sym h.1 ∙ k.1) in
    let ids = sized_split h.0 k.0 (32 ∷ x) (32 ∷ y) (same_id_length h.0 k.0 i j h.3 k.3) after in
    (h.2 ∙ sym k.2, one_id k.0 i j (subst (λ u. SpellsId u i) ids.0 h.3) k.3, ap tail ids.1)

brought : (v w : Dataref) (a b r z : List Placed) → SameRef v w → brings v a → brings w b → a ++ r ≡ b ++ z → (v ≡ w) × (a ≡ b) × (r ≡ z)
brought (Mark x) (Mark y) a b r z s ha kb f = let rows = no_rows a b r z ha kb f in (ap Mark s, rows.0, rows.1)
brought (Mark x) (Inline y) a b r z s ha kb f = absurd s
brought (Mark x) (Hex y) a b r z s ha kb f = absurd s
brought (Inline x) (Mark y) a b r z s ha kb f = absurd s
brought (Inline x) (Inline y) a b r z s ha kb f =
    let rows = single_cut contents contents contents_single contents_single a r b z x y ha kb f in
    (ap Inline (contents_one b x y (subst (λ u. contents u x) rows.0 ha) kb), rows.0, rows.1)
brought (Inline x) (Hex y) a b r z s ha kb f = absurd s
brought (Hex x) (Mark y) a b r z s ha kb f = absurd s
brought (Hex x) (Inline y) a b r z s ha kb f = absurd s
brought (Hex x) (Hex y) a b r z s ha kb f = let rows = no_rows a b r z ha kb f in (ap Hex s, rows.0, rows.1)

set_cut : (s t : List ℕ) (m n : ℕ) (v w : Dataref) (p q : List ℕ) (a b r z : List Placed) → s ≡ t → SetsTo s m v p → SetsTo t n w q → brings v a → brings w b → a ++ r ≡ b ++ z → SameChange (Set m v p) (Set n w q) a b r z
set_cut s t m n v w p q a b r z e h k ha kb f =
    let begun = begins_one t m n v w h.0 k.0 (subst (λ u. BeginsSet u m v h.0) e h.1) k.1 in
    let same = brought v w a b r z begun.1 ha kb f in
    (set_same m n v w p q begun.0 same.0 (one_path k.0 p q (subst (λ u. NamesPath u p) begun.2 h.2) k.2), same.1, same.2)

space_is_no_quote : ◌≢◌ {A = ℕ} 32 34
space_is_no_quote e = absurd (omega (arith, e))

pair_same : (s t : List ℕ) (a b p q : List ℕ) → s ≡ t → IsPair s a p → IsPair t b q → (a ≡ b) × (p ≡ q)
pair_same s t a b p q e h k =
    let cut = one_spelling 32 t a b h.0 k.0 space_is_no_quote (subst (λ u. SpellsPath 32 u a h.0) e h.1.1) k.1.1 in
    (cut.0, one_path k.0 p q (subst (λ u. NamesPath u p) cut.1 h.2) k.2)

it_cut : (x y : Change) (s t : List ℕ) (a b r z : List Placed) → change_word x ++ s ≡ change_word y ++ t → SaysChange s x → SaysChange t y → change_brings x a → change_brings y b → a ++ r ≡ b ++ z → SameChange x y a b r z
it_cut (Set m v p) (Set n w q) s t a b r z e h k ha kb f = set_cut s t m n v w p q a b r z (same_tail (codes "M ") s t e) h k ha kb f
it_cut (Set m v p) (Delete q) s t a b r z e h k ha kb f = let n : 77 ≡ 68 = ap first e in absurd (omega (arith, n))
it_cut (Set m v p) (Copy d q) s t a b r z e h k ha kb f = let n : 77 ≡ 67 = ap first e in absurd (omega (arith, n))
it_cut (Set m v p) (Move d q) s t a b r z e h k ha kb f = let n : 77 ≡ 82 = ap first e in absurd (omega (arith, n))
it_cut (Set m v p) Clear s t a b r z e h k ha kb f = let n : 77 ≡ 100 = ap first e in absurd (omega (arith, n))
it_cut (Delete p) (Set n w q) s t a b r z e h k ha kb f = let n : 68 ≡ 77 = ap first e in absurd (omega (arith, n))
it_cut (Delete p) (Delete q) s t a b r z e h k ha kb f = let rows = no_rows a b r z ha kb f in (ap Delete (one_path t p q (subst (λ u. NamesPath u p) (same_tail (codes "D ") s t e) h) k), rows.0, rows.1)
it_cut (Delete p) (Copy d q) s t a b r z e h k ha kb f = let n : 68 ≡ 67 = ap first e in absurd (omega (arith, n))
it_cut (Delete p) (Move d q) s t a b r z e h k ha kb f = let n : 68 ≡ 82 = ap first e in absurd (omega (arith, n))
it_cut (Delete p) Clear s t a b r z e h k ha kb f = let n : 68 ≡ 100 = ap first e in absurd (omega (arith, n))
it_cut (Copy c p) (Set n w q) s t a b r z e h k ha kb f = let n : 67 ≡ 77 = ap first e in absurd (omega (arith, n))
it_cut (Copy c p) (Delete q) s t a b r z e h k ha kb f = let n : 67 ≡ 68 = ap first e in absurd (omega (arith, n))
it_cut (Copy c p) (Copy d q) s t a b r z e h k ha kb f = let rows = no_rows a b r z ha kb f in let same = pair_same s t c d p q (same_tail (codes "C ") s t e) h k in (ap (λ (u : List ℕ). Copy u p) same.0 ∙ ap (λ (u : List ℕ). Copy d u) same.1, rows.0, rows.1)
it_cut (Copy c p) (Move d q) s t a b r z e h k ha kb f = let n : 67 ≡ 82 = ap first e in absurd (omega (arith, n))
it_cut (Copy c p) Clear s t a b r z e h k ha kb f = let n : 67 ≡ 100 = ap first e in absurd (omega (arith, n))
it_cut (Move c p) (Set n w q) s t a b r z e h k ha kb f = let n : 82 ≡ 77 = ap first e in absurd (omega (arith, n))
it_cut (Move c p) (Delete q) s t a b r z e h k ha kb f = let n : 82 ≡ 68 = ap first e in absurd (omega (arith, n))
it_cut (Move c p) (Copy d q) s t a b r z e h k ha kb f = let n : 82 ≡ 67 = ap first e in absurd (omega (arith, n))
it_cut (Move c p) (Move d q) s t a b r z e h k ha kb f = let rows = no_rows a b r z ha kb f in let same = pair_same s t c d p q (same_tail (codes "R ") s t e) h k in (ap (λ (u : List ℕ). Move u p) same.0 ∙ ap (λ (u : List ℕ). Move d u) same.1, rows.0, rows.1)
it_cut (Move c p) Clear s t a b r z e h k ha kb f = let n : 82 ≡ 100 = ap first e in absurd (omega (arith, n))
it_cut Clear (Set n w q) s t a b r z e h k ha kb f = let n : 100 ≡ 77 = ap first e in absurd (omega (arith, n))
it_cut Clear (Delete q) s t a b r z e h k ha kb f = let n : 100 ≡ 68 = ap first e in absurd (omega (arith, n))
it_cut Clear (Copy d q) s t a b r z e h k ha kb f = let n : 100 ≡ 67 = ap first e in absurd (omega (arith, n))
it_cut Clear (Move d q) s t a b r z e h k ha kb f = let n : 100 ≡ 82 = ap first e in absurd (omega (arith, n))
it_cut Clear Clear s t a b r z e h k ha kb f = let rows = no_rows a b r z ha kb f in (refl, rows.0, rows.1)

pub change_cut : (a b r z : List Placed) (x y : At Change) → change a x → change b y → a ++ r ≡ b ++ z → (a ≡ b) × (x ≡ y) × (r ≡ z)
change_cut a b r z x y h k e =
    let p = line_at x.at (change_word x.it ++ h.0) in
    let q = line_at y.at (change_word y.it ++ k.0) in
    let cut = cons_cut p q (h.1 ++ r) (k.1 ++ z) (ap (λ (t : List Placed). t ++ r) (sym h.2) ∙ e ∙ ap (λ (t : List Placed). t ++ z) k.2) in
    let same = it_cut x.it y.it h.0 k.0 h.1 k.1 r z (ap (λ (t : Placed). t.row.line) cut.0) h.3 k.3 h.4 k.4 cut.1 in
    (h.2 ∙ ap (λ (t : Placed). t ∷ h.1) cut.0 ∙ ap (λ (t : List Placed). q ∷ t) same.1 ∙ sym k.2, same_at x y (ap (λ (t : Placed). t.at) cut.0) same.0, same.2)

pub some_change : (a b : List Placed) (x : At Change) → change a x → [] ≡ a ++ b → ⊥
some_change a b x h e = let n : [] ≡ line_at x.at (change_word x.it ++ h.0) ∷ (h.1 ++ b) = e ∙ ap (λ (t : List Placed). t ++ b) h.2 in absurd cc

pub changes_one : One (many change)
changes_one rows [] [] h k = refl
changes_one rows [] (y ∷ ys) h k = absurd (some_change k.0 k.1 y k.3 (sym h ∙ k.2))
changes_one rows (x ∷ xs) [] h k = absurd (some_change h.0 h.1 x h.3 (sym k ∙ h.2))
changes_one rows (x ∷ xs) (y ∷ ys) h k =
    let cut = change_cut h.0 k.0 h.1 k.1 x y h.3 k.3 (sym h.2 ∙ k.2) in
    let more = changes_one k.1 xs ys (subst (λ r. many change r xs) cut.2 h.4) k.4 in
    ap (λ (c : At Change). c ∷ xs) cut.1 ∙ ap (λ (cs : List (At Change)). y ∷ cs) more
