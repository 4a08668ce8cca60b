-- Escaped texts (RFC 3986, percent-encoding).
use Rattle.std.specs.Prelude.{ℕ, Bool, ◌||◌, ◌==◌, nat_le, if◌then◌else◌, List, [], ◌∷◌}
use Rattle.std.specs.List.{flat_map}
use Rattle.percent_encoding.specs.Percent.{percent_encode_byte}

-- bytes up to a space, `%`, `;`, DEL, and those from 128 on
abbrev pub is_escaped : ℕ → Bool
is_escaped c = nat_le c 32 || c == 37 || c == 59 || nat_le 127 c

-- the byte, or `%` and two upper-case digits where it is escaped
abbrev pub escaped_byte : ℕ → List ℕ
escaped_byte c = if is_escaped c then percent_encode_byte c else c ∷ []

-- the bytes, of which some are escaped
abbrev pub escaped : List ℕ → List ℕ
escaped bytes = flat_map escaped_byte bytes
