-- Texts of origins and paths: SWHID v1.2, qualified identifiers; RFC 3986, percent-encoding. Any byte but a space, a
-- control or a `;`, and `%` before two hexadecimal digits alone.
use Rattle.std.specs.Prelude.{◌≡◌, ◌≢◌, ℕ, ◌==◌, Bool, true, ◌&&◌, not, nat_le, List, [], ◌∷◌}
use Rattle.hex.specs.Hex.{is_hex_digit}
use Rattle.swh_swhid.specs.declared.text.Due.{Due}
use Rattle.swh_swhid.specs.declared.text.Due.TheVariants.{Nothing, Second, Both}

-- a byte above a space, no `;` and no DEL
abbrev pub is_text_byte : ℕ → Bool
is_text_byte c = nat_le 33 c && nat_le c 255 && not (c == 59) && not (c == 127)

-- The first byte is a hexadecimal digit.
abbrev pub BeginsWithDigit : List ℕ → Type 0
BeginsWithDigit [] = ⊥
BeginsWithDigit (a ∷ text) = is_hex_digit a ≡ true

-- The first two bytes are hexadecimal digits.
abbrev pub BeginsWithDigits : List ℕ → Type 0
BeginsWithDigits [] = ⊥
BeginsWithDigits (a ∷ text) = (is_hex_digit a ≡ true) × BeginsWithDigit text

-- Each byte is one of a text, and two hexadecimal digits follow each `%`.
abbrev pub IsText : List ℕ → Type 0
IsText [] = Unit {0}
IsText (c ∷ text) = (is_text_byte c ≡ true) × (c ≡ 37 → BeginsWithDigits text) × IsText text

-- one byte or more of text
abbrev pub IsOriginText : List ℕ → Type 0
IsOriginText text = (text ≢ []) × IsText text

-- text that begins with a `/`
abbrev pub IsPathText : List ℕ → Type 0
IsPathText [] = ⊥
IsPathText (c ∷ text) = (c ≡ 47) × IsText text

-- what may stand in a text where so many hexadecimal digits are due
abbrev pub IsTextBehind : Due → List ℕ → Type 0
IsTextBehind Nothing text = IsText text
IsTextBehind Second text = BeginsWithDigit text × IsText text
IsTextBehind Both text = BeginsWithDigits text × IsText text

-- Where `due` says which digits are due before the byte `c`, `next` says which are due behind it.
abbrev pub IsDueNext : Due → ℕ → Due → Type 0
IsDueNext due c next = (y : List ℕ) → (IsTextBehind due (c ∷ y) → IsTextBehind next y) × (IsTextBehind next y → IsTextBehind due (c ∷ y))
