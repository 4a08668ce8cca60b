-- Texts of origins and paths: what may stand after a front, and how far bytes go along with texts.
use Rattle.std.proofs.Common.{◌≡◌, ◌≢◌, ℕ, suc, ◌+◌, ◌<◌, true, List, [], ◌∷◌, ◌++◌, length, get_or, take, drop, refl, sym, ap, ◌∙◌, subst, arith, drop-cons}
use Rattle.std.proofs.lemmas.Bool.Decides.{nat_tests}
use Rattle.std.proofs.lemmas.List.{take-append-drop, length-take-le, take_all, append-nil}
use Rattle.hex.specs.Hex.{is_hex_digit}
use Rattle.swh_swhid.specs.Front.{BreaksAt}
use Rattle.swh_swhid.specs.Text.{is_text_byte, IsText, IsOriginText, IsPathText, IsTextBehind}
use Rattle.swh_swhid.specs.declared.text.Due.{Due}
use Rattle.swh_swhid.specs.declared.text.Due.TheVariants.{Nothing, Second, Both}
use Rattle.swh_swhid.proofs.Fronts.{breaks_after}
use Rattle.swh_swhid.proofs.Ranges.{byte_at}

-- a hexadecimal digit is a byte of a text, and no `%`
pub hex-text : (c : ℕ) → is_hex_digit c ≡ true → is_text_byte c ≡ true
hex-text c h = grind (arith, nat_tests)

pub hex-no_percent : (c : ℕ) → is_hex_digit c ≡ true → c ≡ 37 → ⊥
hex-no_percent c h e = let at : is_hex_digit 37 ≡ true = subst (λ (k : ℕ). is_hex_digit k ≡ true) e h in absurd cc

-- The bytes in front are texts with what is due after them, and with nothing else.
abbrev pub Leaves : List ℕ → Due → Type 0
Leaves front due = (y : List ℕ) → (IsText (front ++ y) → IsTextBehind due y) × (IsTextBehind due y → IsText (front ++ y))

abbrev zeros : Due → List ℕ
zeros Nothing = []
zeros Second = 48 ∷ []
zeros Both = 48 ∷ 48 ∷ []

zeros-text : (due : Due) → IsTextBehind due (zeros due)
zeros-text Nothing = tt
zeros-text Second = (refl, (refl, (λ e. absurd (omega (arith, e))), tt))
zeros-text Both = ((refl, refl), (refl, (λ e. absurd (omega (arith, e))), (refl, (λ e. absurd (omega (arith, e))), tt)))

-- A text breaks at a byte that may not follow.
pub text_breaks : (text : List ℕ) (i : ℕ) (due : Due) → i < length text → Leaves (take i text) due → ((y : List ℕ) → IsTextBehind due (get_or text i 0 ∷ y) → ⊥) → BreaksAt IsText text i
text_breaks text i due within l never = record {
  front = take i text;
  rest = drop i text;
  cut = sym (take-append-drop i text);
  here = sym (length-take-le i text (omega arith));
  more = zeros due;
  goes_on = (l (zeros due)).1 (zeros-text due);
  stops = λ b tail x e h. let at = (byte_at text i b tail e).1 in never x ((l (get_or text i 0 ∷ x)).0 (subst (λ (c : ℕ). IsText (take i text ++ c ∷ x)) (sym at) h));
  refused = λ h. never (drop (suc i) text) ((l (get_or text i 0 ∷ drop (suc i) text)).0 (subst IsText (sym (take-append-drop i text) ∙ ap (λ (t : List ℕ). take i text ++ t) (drop-cons text i 0 within)) h));
}

-- It breaks at its end where digits are due there.
pub text_ends : (text : List ℕ) (i : ℕ) (due : Due) → i ≡ length text → Leaves (take i text) due → (IsTextBehind due [] → ⊥) → BreaksAt IsText text (length text)
text_ends text i due top l never =
    let whole : take i text ≡ text = take_all i text (omega arith) in
    let leaves : Leaves text due = subst (λ (t : List ℕ). Leaves t due) whole l in
    record {
      front = text;
      rest = [];
      cut = sym (append-nil text);
      here = refl;
      more = zeros due;
      goes_on = (leaves (zeros due)).1 (zeros-text due);
      stops = λ b tail x e h. absurd cc;
      refused = λ h. never ((leaves []).0 (subst IsText (sym (append-nil text)) h));
    }

pub text_read : (text : List ℕ) (i : ℕ) → i ≡ length text → Leaves (take i text) Nothing → IsText text
text_read text i top l = subst IsText (append-nil (take i text) ∙ take_all i text (omega arith)) ((l []).1 tt)

-- the letter `a`, with which any text may begin
letter : IsText (97 ∷ [])
letter = (refl, (λ e. absurd (omega (arith, e))), tt)

not-nil : (c : ℕ) (x : List ℕ) → c ∷ x ≢ []
not-nil c x e = cc

pub empty_origin : (text : List ℕ) → length text ≡ 0 → BreaksAt IsOriginText text 0
empty_origin [] none = record { front = []; rest = []; cut = refl; here = refl; more = 97 ∷ []; goes_on = (not-nil 97 [], letter); stops = λ b tail x e h. absurd cc; refused = λ h. h.0 refl }
empty_origin (c ∷ text) none = absurd (omega arith)

origin_from : (text : List ℕ) (n : ℕ) (front rest more : List ℕ) → text ≡ front ++ rest → n ≡ length front → IsText (front ++ more) → ((b : ℕ) (tail x : List ℕ) → rest ≡ b ∷ tail → IsText (front ++ b ∷ x) → ⊥) → (IsText text → ⊥) → BreaksAt IsOriginText text n
origin_from text n [] rest more cut here goes stops refused = record { front = []; rest = rest; cut = cut; here = here; more = 97 ∷ []; goes_on = (not-nil 97 [], letter); stops = λ b tail x e h. stops b tail x e h.1; refused = λ h. refused h.1 }
origin_from text n (c ∷ front) rest more cut here goes stops refused = record { front = c ∷ front; rest = rest; cut = cut; here = here; more = more; goes_on = (not-nil c (front ++ more), goes); stops = λ b tail x e h. stops b tail x e h.1; refused = λ h. refused h.1 }

-- where bytes break as a text, they break as an origin's
pub origin_breaks : (text : List ℕ) (n : ℕ) → BreaksAt IsText text n → BreaksAt IsOriginText text n
origin_breaks text n b = origin_from text n b.front b.rest b.more b.cut b.here b.goes_on b.stops b.refused

no_slash : (text : List ℕ) → get_or text 0 0 ≢ 47 → IsPathText text → ⊥
no_slash [] other h = h
no_slash (c ∷ text) other h = other h.0

-- a path's text begins with a slash
pub slash_breaks : (text : List ℕ) → get_or text 0 0 ≢ 47 → BreaksAt IsPathText text 0
slash_breaks text other = record {
  front = [];
  rest = text;
  cut = refl;
  here = refl;
  more = 47 ∷ [];
  goes_on = (refl, tt);
  stops = λ b tail x e h. other (ap (λ (t : List ℕ). get_or t 0 0) e ∙ h.0);
  refused = no_slash text other;
}

slash_first : (text : List ℕ) → 0 < length text → get_or text 0 0 ≡ 47 → text ≡ 47 ∷ drop 1 text
slash_first [] some e = absurd (omega arith)
slash_first (c ∷ text) some e = ap (λ (d : ℕ). d ∷ text) e

pub path_breaks : (text : List ℕ) (n : ℕ) → 0 < length text → get_or text 0 0 ≡ 47 → BreaksAt IsText (drop 1 text) n → BreaksAt IsPathText text (1 + n)
path_breaks text n some e b = subst (λ (t : List ℕ). BreaksAt IsPathText t (1 + n)) (sym (slash_first text some e)) (breaks_after IsPathText IsText (47 ∷ []) (drop 1 text) n (λ y h. (refl, h)) (λ y h. h.1) b)

pub path_read : (text : List ℕ) → 0 < length text → get_or text 0 0 ≡ 47 → IsText (drop 1 text) → IsPathText text
path_read text some e h = subst IsPathText (sym (slash_first text some e)) (refl, h)

pub empty_path : (text : List ℕ) → length text ≡ 0 → BreaksAt IsPathText text 0
empty_path [] none = slash_breaks [] (λ e. omega (arith, e))
empty_path (c ∷ text) none = absurd (omega arith)

pub any_origin : IsOriginText (97 ∷ [])
any_origin = (not-nil 97 [], letter)
