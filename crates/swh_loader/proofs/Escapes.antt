-- How long an escaped byte is.
use Rattle.std.proofs.Common.{◌≡◌, ℕ, length, refl}
use Rattle.percent_encoding.specs.Percent.{percent_encode_byte}

pub three : (byte : ℕ) → length (percent_encode_byte byte) ≡ 3
unfolding percent_encode_byte
three byte = refl
