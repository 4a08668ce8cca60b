-- Escaped bytes are a text, and stand for the bytes.
use Rattle.std.proofs.Common.{◌≡◌, ◌≢◌, ℕ, ◌/◌, ◌%◌, ◌<◌, if◌then◌else◌, true, false, List, [], ◌∷◌, ◌++◌, refl, sym, ap, ◌∙◌, subst, arith}
use Rattle.std.specs.Fmt.{digit_glyph}
use Rattle.std.proofs.lemmas.Bool.{agree_below_at}
use Rattle.std.proofs.lemmas.Bool.Decides.{nat_tests}
use Rattle.hex.specs.Hex.{is_hex_digit}
use Rattle.percent_encoding.specs.Percent.{percent_decode, percent_encode_byte}
use Rattle.percent_encoding.proofs.PercentLemmas.{percent_decode-nil, percent_decode_not_percent, percent_decode-percent_encode_byte}
use Rattle.swh_swhid.specs.Text.{is_text_byte, IsText, IsOriginText, IsPathText}
use Rattle.swh_base.specs.Escape.{is_escaped, escaped}
use Rattle.swh_swhid.specs.Printed.{AreBytes, BeginsWithSlash}
use Rattle.swh_swhid.proofs.Texts.{hex-text, hex-no_percent}

kept-text : (b : ℕ) → is_escaped b ≡ false → is_text_byte b ≡ true
kept-text b h = grind (arith, nat_tests)

kept-no_percent : (b : ℕ) → is_escaped b ≡ false → b ≢ 37
kept-no_percent b h e = let at : is_escaped 37 ≡ false = subst (λ (k : ℕ). is_escaped k ≡ false) e h in absurd cc

glyph-hex : (k : ℕ) → k < 16 → is_hex_digit (digit_glyph true k) ≡ true
glyph-hex k h = agree_below_at (λ n. is_hex_digit (digit_glyph true n)) (λ _. true) 16 k refl h

escape-text : (b : ℕ) (t : List ℕ) → IsText t → IsText (percent_encode_byte b ++ t)
unfolding percent_encode_byte
escape-text b t h =
    let high = glyph-hex (b / 16 % 16) (omega arith) in
    let low = glyph-hex (b % 16) (omega arith) in
    let a : ℕ = digit_glyph true (b / 16 % 16) in
    let z : ℕ = digit_glyph true (b % 16) in
    (refl, (λ _. (high, low)), (hex-text a high, (λ e. absurd (hex-no_percent a high e)), (hex-text z low, (λ e. absurd (hex-no_percent z low e)), h)))

escaped-text : (bs : List ℕ) → IsText (escaped bs)
escaped-text [] = tt
escaped-text (b ∷ bs) =
    elim (is_escaped b) as (λ v. is_escaped b ≡ v → IsText ((if v then percent_encode_byte b else b ∷ []) ++ escaped bs)) [
      | true ↦ λ e. escape-text b (escaped bs) (escaped-text bs)
      | false ↦ λ e. (kept-text b e, (λ is. absurd (kept-no_percent b e is)), escaped-text bs)
    ] refl

pub escaped-back : (bs : List ℕ) → AreBytes bs → percent_decode (escaped bs) ≡ bs
escaped-back [] h = percent_decode-nil
escaped-back (b ∷ bs) h =
    let rest : b ∷ percent_decode (escaped bs) ≡ b ∷ bs = ap (λ (x : List ℕ). b ∷ x) (escaped-back bs h.1) in
    elim (is_escaped b) as (λ v. is_escaped b ≡ v → percent_decode ((if v then percent_encode_byte b else b ∷ []) ++ escaped bs) ≡ b ∷ bs) [
      | true ↦ λ e. percent_decode-percent_encode_byte b (escaped bs) h.0 ∙ rest
      | false ↦ λ e. percent_decode_not_percent b (escaped bs) (kept-no_percent b e) ∙ rest
    ] refl

pub escaped-origin : (bs : List ℕ) → bs ≢ [] → AreBytes bs → IsOriginText (escaped bs)
escaped-origin bs some h = ((λ e. some (sym (escaped-back bs h) ∙ ap percent_decode e ∙ percent_decode-nil)), escaped-text bs)

pub escaped-path : (bs : List ℕ) → BeginsWithSlash bs → IsPathText (escaped bs)
escaped-path [] h = absurd h
escaped-path (c ∷ bs) h = subst (λ (k : ℕ). IsPathText (escaped (k ∷ bs))) (sym h) (refl, escaped-text bs)
