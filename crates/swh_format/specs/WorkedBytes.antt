-- The bytes of a worked event.
use Rattle.std.specs.Prelude.{ℕ, List, [], ◌∷◌}

-- `O`, 28 bytes of payload: by 1, fast, the date, the URL; then a closed gate
abbrev pub opening_bytes : List ℕ
opening_bytes = 0x4f ∷ 0 ∷ 0 ∷ 0 ∷ 0x1c ∷ 0 ∷ 0 ∷ 0 ∷ 1 ∷ 1 ∷ 0 ∷ 0 ∷ 0 ∷ 0 ∷ 0x3b ∷ 0x9a ∷ 0xca ∷ 0 ∷ 0x68 ∷ 0x74 ∷ 0x74 ∷ 0x70 ∷ 0x73 ∷ 0x3a ∷ 0x2f ∷ 0x2f ∷ 0x65 ∷ 0x2e ∷ 0x6f ∷ 0x72 ∷ 0x67 ∷ 0x2f ∷ 0x70 ∷ 0 ∷ []
