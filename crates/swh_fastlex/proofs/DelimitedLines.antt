-- Lines before a delimiter: one more of them, and what is to be read after it.
use Rattle.std.proofs.Common.{◌≡◌, ℕ, ◌+◌, ◌≤◌, List, [], ◌∷◌, ◌++◌, length, refl, sym, ap, ◌∙◌, arith, append_assoc, length-append}
use Rattle.std.specs.List.{AllByRecursion}
use Rattle.swh_base.proofs.Splits.{sized_split}
use Rattle.swh_base.specs.Limits.{line_limit}
use Rattle.swh_fastlex.specs.Delimited.{IsOther, IsShortLine, lines_text, AreLines}
use Rattle.swh_fastlex.specs.Line.{Held, unread, Takes, IsLine}

-- what follows one front of two equal texts is the same
pub same_rest : (a x y : List ℕ) → a ++ x ≡ a ++ y → x ≡ y
same_rest a x y e = (sized_split a a x y refl e).1

lines_more : (ls : List (List ℕ)) (m : List ℕ) → lines_text (ls ++ m ∷ []) ≡ lines_text ls ++ (m ++ 10 ∷ [])
lines_more [] m = refl
lines_more (l ∷ ls) m = ap (λ (t : List ℕ). l ++ 10 ∷ t) (lines_more ls m) ∙ sym (append_assoc l (10 ∷ lines_text ls) (m ++ 10 ∷ []))

all_more : {A : Type 0} (P : A → Type 0) (ls : List A) (m : A) → AllByRecursion P ls → P m → AllByRecursion P (ls ++ m ∷ [])
all_more P [] m h k = (k, tt)
all_more P (l ∷ ls) m h k = (h.0, all_more P ls m h.1 k)

pub one_more_line : (word bytes line longer : List ℕ) → AreLines word bytes → IsLine line → length line ≤ line_limit → (line ≡ word ++ 10 ∷ [] → ⊥) → longer ≡ bytes ++ line → AreLines word longer
one_more_line word bytes line longer h l short other e = record {
  lines = h.lines ++ l.front ∷ [];
  each = all_more (IsOther word) h.lines l.front h.each (l.no_feed, λ same. other (l.text ∙ ap (λ (t : List ℕ). t ++ 10 ∷ []) same));
  fit = all_more IsShortLine h.lines l.front h.fit (let size = ap length l.text in omega (arith, short, size, length-append l.front (10 ∷ [])));
  value = e ∙ ap (λ (t : List ℕ). t ++ line) h.value ∙ ap (λ (t : List ℕ). lines_text h.lines ++ t) l.text ∙ sym (lines_more h.lines l.front);
}

-- what is to be read after the bytes so far and one more line
pub read_on : (all bytes line u v : List ℕ) → all ≡ bytes ++ u → u ≡ line ++ v → all ≡ (bytes ++ line) ++ v
read_on all bytes line u v e f = e ∙ ap (λ (t : List ℕ). bytes ++ t) f ∙ sym (append_assoc bytes line v)

pub takes_more : (before middle now : Held) (left left_middle left_now bytes line : List ℕ) → unread before left ≡ bytes ++ unread middle left_middle → middle.place ≡ before.place + length bytes → Takes middle now left_middle left_now line → Takes before now left left_now (bytes ++ line)
takes_more before middle now left left_middle left_now bytes line e counted t = record {
  cut = read_on (unread before left) bytes line (unread middle left_middle) (unread now left_now) e t.cut;
  counted = let far = t.counted in omega (arith, counted, far, length-append bytes line);
}
