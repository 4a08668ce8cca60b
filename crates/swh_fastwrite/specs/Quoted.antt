-- How a path is written in a stream (git-fast-import(1), filemodify): as it is, or between quotes where it has to be.
use Rattle.std.specs.Prelude.{ℕ, ◌+◌, ◌/◌, ◌%◌, ◌==◌, Bool, ◌||◌, nat_le, if◌then◌else◌, List, [], ◌∷◌, ◌++◌}
use Rattle.std.specs.List.{flat_map, list_any}

-- below a space, `"`, `\`, or from DEL on
abbrev pub is_quoted_byte : ℕ → Bool
is_quoted_byte c = nat_le c 31 || c == 34 || c == 92 || nat_le 127 c

-- `"` and `\` behind a backslash, others by three octal digits, and the rest as they are
abbrev pub quoted_byte : ℕ → List ℕ
quoted_byte c =
    if c == 34 || c == 92 then 92 ∷ c ∷ []
    else if is_quoted_byte c then 92 ∷ (48 + c / 8 / 8) ∷ (48 + c / 8 % 8) ∷ (48 + c % 8) ∷ []
    else c ∷ []

-- between quotes just where a byte of it is quoted
abbrev pub quoted_path : List ℕ → List ℕ
quoted_path path = if list_any is_quoted_byte path then 34 ∷ (flat_map quoted_byte path ++ 34 ∷ []) else path
