-- Texts that spell parts of a stream, row by row, wherever they stand.
use Rattle.std.proofs.Common.{◌≡◌, ℕ, ◌+◌, ◌≤◌, false, List, [], ◌∷◌, ◌++◌, length, Some, None, refl, sym, ap, ◌∙◌, subst, arith, append_assoc}
use Rattle.swh_base.specs.Limits.{body_limit}
use Rattle.swh_revfmt.specs.Plain.{text_line}
use Rattle.swh_fastwrite.specs.Text.{data_text}
use Rattle.swh_fastgrammar.specs.declared.command.Change.{Change}
use Rattle.swh_fastgrammar.specs.Grammar.{◌▹◌, ◌▸◌, optional, many, line_at, line, placed_line, contents, change, change_word, SaysChange, change_brings}
use Rattle.swh_fastgrammar.specs.Row.{Row, text_of, Placed, placed, is_comment}
use Rattle.swh_fastgrammar.proofs.Faults.{append_nil, text_of-append}
use Rattle.swh_fastrows.proofs.Joins.{plain, placed-append, placed_row}
use Rattle.swh_roundtrip.proofs.GoodLines.{AreFreeRows, free-append, IsGoodLine, free_line, data_row, is_data, free_data}

-- The text is rows that say this, from this place on, whatever follows them.
pub record Spells {X : Type 0} (L : List Placed → X → Type 0) (at : ℕ) (text : List ℕ) (x : X) : Type 0 where
  pub rows : List Row
  pub spelled : text ≡ text_of rows
  pub free : AreFreeRows rows
  pub said : L (placed at rows) x

both : (a b : List ℕ) (rows more : List Row) → a ≡ text_of rows → b ≡ text_of more → a ++ b ≡ text_of (rows ++ more)
both a b rows more e f = ap (λ (t : List ℕ). t ++ b) e ∙ ap (λ (t : List ℕ). text_of rows ++ t) f ∙ sym (text_of-append rows more)

-- one part after another
pub spells_then : {X Y : Type 0} (L : List Placed → X → Type 0) (M : List Placed → Y → Type 0) (at : ℕ) (a b : List ℕ) (x : X) (y : Y) → Spells L at a x → Spells M (at + length a) b y → Spells (L ▹ M) at (a ++ b) (x, y)
spells_then L M at a b x y s t = record {
  rows = s.rows ++ t.rows;
  spelled = both a b s.rows t.rows s.spelled t.spelled;
  free = free-append s.rows t.rows s.free t.free;
  said = (placed at s.rows, placed (at + length (text_of s.rows)) t.rows, placed-append at s.rows t.rows, s.said, subst (λ (c : List ℕ). M (placed (at + length c) t.rows) y) s.spelled t.said);
}

-- the same, where only the second value is kept
pub spells_skip : {X Y : Type 0} (L : List Placed → X → Type 0) (M : List Placed → Y → Type 0) (at : ℕ) (a b : List ℕ) (x : X) (y : Y) → Spells L at a x → Spells M (at + length a) b y → Spells (L ▸ M) at (a ++ b) y
spells_skip L M at a b x y s t = let both = spells_then L M at a b x y s t in record { rows = both.rows; spelled = both.spelled; free = both.free; said = (x, both.said) }

-- a part that may lack, and is there
pub spells_some : {X : Type 0} (L : List Placed → X → Type 0) (at : ℕ) (a : List ℕ) (x : X) → Spells L at a x → Spells (optional L) at a (Some x)
spells_some L at a x s = record { rows = s.rows; spelled = s.spelled; free = s.free; said = s.said }

-- or lacks
pub spells_none : {X : Type 0} (L : List Placed → X → Type 0) (at : ℕ) → Spells (optional L) at [] None
spells_none L at = record { rows = []; spelled = refl; free = tt; said = refl }

pub spells_without : {X Y : Type 0} (L : List Placed → X → Type 0) (M : List Placed → Y → Type 0) (at : ℕ) (b : List ℕ) (y : Y) → Spells M at b y → Spells (optional L ▹ M) at b (None, y)
spells_without L M at b y t = record { rows = t.rows; spelled = t.spelled; free = t.free; said = ([], placed at t.rows, refl, refl, t.said) }

pub skips_none : {X Y : Type 0} (L : List Placed → X → Type 0) (M : List Placed → Y → Type 0) (at : ℕ) (b : List ℕ) (y : Y) → Spells M at b y → Spells (optional L ▸ M) at b y
skips_none L M at b y t = record { rows = t.rows; spelled = t.spelled; free = t.free; said = (None, ([], placed at t.rows, refl, refl, t.said)) }

-- no part, and one more
pub spells_nil : {X : Type 0} (L : List Placed → X → Type 0) (at : ℕ) → Spells (many L) at [] []
spells_nil L at = record { rows = []; spelled = refl; free = tt; said = refl }

pub spells_cons : {X : Type 0} (L : List Placed → X → Type 0) (at : ℕ) (a b : List ℕ) (x : X) (xs : List X) → Spells L at a x → Spells (many L) (at + length a) b xs → Spells (many L) at (a ++ b) (x ∷ xs)
spells_cons L at a b x xs s t = let both = spells_then L (many L) at a b x xs s t in record { rows = both.rows; spelled = both.spelled; free = both.free; said = both.said }

many_append : {X : Type 0} (L : List Placed → X → Type 0) (p q : List Placed) (xs ys : List X) → many L p xs → many L q ys → many L (p ++ q) (xs ++ ys)
many_append L p q [] ys h k = subst (λ (r : List Placed). many L (r ++ q) ys) (sym h) k
many_append L p q (x ∷ xs) ys (front, back, e, l, m) k = (front, back ++ q, ap (λ (r : List Placed). r ++ q) e ∙ append_assoc front back q, l, many_append L back q xs ys m k)

-- parts after parts
pub spells_append : {X : Type 0} (L : List Placed → X → Type 0) (at : ℕ) (a b : List ℕ) (xs ys : List X) → Spells (many L) at a xs → Spells (many L) (at + length a) b ys → Spells (many L) at (a ++ b) (xs ++ ys)
spells_append L at a b xs ys s t = record {
  rows = s.rows ++ t.rows;
  spelled = both a b s.rows t.rows s.spelled t.spelled;
  free = free-append s.rows t.rows s.free t.free;
  said = subst (λ (r : List Placed). many L r (xs ++ ys)) (sym (placed-append at s.rows t.rows))
      (many_append L (placed at s.rows) (placed (at + length (text_of s.rows)) t.rows) xs ys s.said (subst (λ (c : List ℕ). many L (placed (at + length c) t.rows) ys) s.spelled t.said));
}

-- the same text, written otherwise
pub spells_as : {X : Type 0} (L : List Placed → X → Type 0) (at : ℕ) (a b : List ℕ) (x : X) → a ≡ b → Spells L at a x → Spells L at b x
spells_as L at a b x e s = record { rows = s.rows; spelled = sym e ∙ s.spelled; free = s.free; said = s.said }

-- ## Lines

one_line_text : (word text : List ℕ) → text_line word text ≡ text_of (plain (word ++ text) ∷ [])
one_line_text word text = sym (append_assoc word text (10 ∷ [])) ∙ sym (append_nil ((word ++ text) ++ 10 ∷ []))

one_placed : (at : ℕ) (line : List ℕ) → is_comment line ≡ false → placed at (plain line ∷ []) ≡ line_at at line ∷ []
one_placed at line counts = placed_row at (plain line) [] counts

pub spells_line : {X : Type 0} (word : List ℕ) (Tells : List ℕ → X → Type 0) (at : ℕ) (text : List ℕ) (x : X) → IsGoodLine (word ++ text) → Tells text x → Spells (line word Tells) at (text_line word text) x
spells_line word Tells at text x good says = record {
  rows = plain (word ++ text) ∷ [];
  spelled = one_line_text word text;
  free = (free_line (word ++ text) good, tt);
  said = (at, text, one_placed at (word ++ text) good.counts, says);
}

pub spells_placed : {X : Type 0} (word : List ℕ) (Tells : List ℕ → X → Type 0) (at : ℕ) (text : List ℕ) (x : X) → IsGoodLine (word ++ text) → Tells text x → Spells (placed_line word Tells) at (text_line word text) (record { at = at; it = x })
spells_placed word Tells at text x good says = record {
  rows = plain (word ++ text) ∷ [];
  spelled = one_line_text word text;
  free = (free_line (word ++ text) good, tt);
  said = (text, one_placed at (word ++ text) good.counts, says);
}

-- a change that is a line alone
pub spells_change : (at : ℕ) (c : Change) (text : List ℕ) → IsGoodLine (change_word c ++ text) → SaysChange text c → change_brings c [] → Spells change at (text_line (change_word c) text) (record { at = at; it = c })
spells_change at c text good says brings = record {
  rows = plain (change_word c ++ text) ∷ [];
  spelled = one_line_text (change_word c) text;
  free = (free_line (change_word c ++ text) good, tt);
  said = (text, [], one_placed at (change_word c ++ text) good.counts, says, brings);
}

-- ## Data

data_is : (line bytes : List ℕ) → (line ++ 10 ∷ []) ++ (bytes ++ 10 ∷ []) ≡ (line ++ 10 ∷ (bytes ++ 10 ∷ [])) ++ []
data_is line bytes = append_assoc line (10 ∷ []) (bytes ++ 10 ∷ []) ∙ sym (append_nil (line ++ 10 ∷ (bytes ++ 10 ∷ [])))

pub spells_data : (at : ℕ) (bytes : List ℕ) → length bytes ≤ body_limit → Spells contents at (data_text bytes) bytes
spells_data at bytes within = record {
  rows = data_row bytes ∷ [];
  spelled = data_is (data_row bytes).line bytes;
  free = (free_data bytes within, tt);
  said = (record { at = at; row = data_row bytes }, [], placed_row at (data_row bytes) [] refl, is_data bytes [] (omega (arith, within)));
}
