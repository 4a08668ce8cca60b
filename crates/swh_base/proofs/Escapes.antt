-- The set of escaped bytes is what the definition says, and so is the text that it makes.
use Rattle.std.proofs.Common.{◌≡◌, ℕ, if◌then◌else◌, Bool, inl, inr, List, [], ◌∷◌, refl, ap, ap₂, ◌++◌, arith}
use Rattle.std.proofs.lemmas.Bool.{agree_below_at, cases_lt}
use Rattle.std.proofs.lemmas.Bool.Decides.{nat_tests}
use Rattle.percent_encoding.specs.AsciiSet.{should_percent_encode}
use Rattle.percent_encoding.specs.Percent.{percent_encode, percent_encode_byte}
use Rattle.swh_base.specs.declared.escaping.TheConstants.{ESCAPED}
use Rattle.swh_base.specs.Escape.{is_escaped, escaped}

-- the set has these bytes
pub set-is : (b : ℕ) → should_percent_encode ESCAPED b ≡ is_escaped b
unfolding should_percent_encode
set-is b = elim (cases_lt b 128) [
  | inl low ↦ agree_below_at (should_percent_encode ESCAPED) is_escaped 128 b refl low
  | inr high ↦ grind (arith, nat_tests)
]

-- what the set makes of bytes
pub encoded : (bs : List ℕ) → percent_encode ESCAPED bs ≡ escaped bs
unfolding percent_encode
encoded [] = refl
encoded (b ∷ bs) = ap₂ ◌++◌ (ap (λ (v : Bool). if v then percent_encode_byte b else b ∷ []) (set-is b)) (encoded bs)
