-- Texts of ids: each is an id's, and how far a text goes along with them.
use Rattle.std.proofs.Common.{◌≡◌, ℕ, suc, ◌+◌, ◌-◌, ◌<◌, ◌≤◌, true, false, ◌⊎◌, inl, inr, List, ◌∷◌, ◌++◌, length, get_or, take, drop, replicate, refl, sym, ap, ◌∙◌, subst, arith, length-append, length-drop, drop-cons}
use Rattle.std.proofs.lemmas.List.{take-append-drop, length-take-le, length-replicate}
use Rattle.std.proofs.lemmas.List.Elements.{All-append, All-replicate, All-drop, All-head}
use Rattle.std.proofs.Math.Seq.{drop-append_seam}
use Rattle.std.specs.List.{AllPass}
use Rattle.swh_base.specs.Name.{is_lower_hex_digit, IsIdText}
use Rattle.swh_swhid.specs.Front.{BreaksAt}

abbrev Lower : ℕ → Type 0
Lower c = is_lower_hex_digit c ≡ true

pub zeros-id : IsIdText (replicate 40 48)
zeros-id = (refl, All-replicate Lower 40 48 refl)

at-head : (f x : List ℕ) (b : ℕ) → AllPass is_lower_hex_digit (f ++ b ∷ x) → Lower b
at-head f x b h = All-head Lower b x (subst (λ (t : List ℕ). AllPass is_lower_hex_digit t) (drop-append_seam f (b ∷ x)) (All-drop Lower (length f) (f ++ b ∷ x) h))

-- A text that is no id breaks at the first byte that is no digit, at the forty-first, or at its end.
pub id_breaks : (text : List ℕ) (n : ℕ) → n ≤ 40 → n ≤ length text → AllPass is_lower_hex_digit (take n text) → (n < length text → (n ≡ 40) ⊎ (is_lower_hex_digit (get_or text n 0) ≡ false)) → (IsIdText text → ⊥) → BreaksAt IsIdText text n
id_breaks text n few le digits at bad =
    let len : length (take n text) ≡ n = length-take-le n text le in
    record {
      front = take n text;
      rest = drop n text;
      cut = sym (take-append-drop n text);
      here = sym len;
      more = replicate (40 - n) 48;
      goes_on = (length-append (take n text) (replicate (40 - n) 48) ∙ omega (arith, len, length-replicate {A = ℕ} (40 - n) 48, few), All-append Lower (take n text) (replicate (40 - n) 48) digits (All-replicate Lower (40 - n) 48 refl));
      stops = λ b tail x e h.
          let rest_len : length (drop n text) ≡ suc (length tail) = ap (λ (t : List ℕ). length t) e in
          let within : n < length text = omega (arith, length-drop n text, rest_len) in
          let whole = h.0 in
          let short : n < 40 = omega (arith, len, whole, length-append (take n text) (b ∷ x)) in
          let same : get_or text n 0 ≡ b = ap (λ (t : List ℕ). get_or t 0 0) (sym (drop-cons text n 0 within) ∙ e) in
          elim (at within) [
            | inl top ↦ absurd (omega arith)
            | inr other ↦ let lower = at-head (take n text) x b h.1 in let low : is_lower_hex_digit (get_or text n 0) ≡ true = rw same lower in absurd cc
          ];
      refused = bad;
    }
