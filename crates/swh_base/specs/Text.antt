-- Texts inside manifests, streams and requests: numbers, refs (gitrevisions(7), git-check-ref-format(1), restricted) and persons
-- (git-fast-import(1), author and committer).
use Rattle.std.specs.Prelude.{◌≡◌, ◌⊎◌, ℕ, ◌+◌, ◌-◌, ◌*◌, ◌≤◌, ◌==◌, Bool, ◌&&◌, not, nat_le, Option, Some, None, List, [], ◌∷◌, ◌++◌, length}
use Rattle.std.specs.List.{AllPass}
use Rattle.swh_base.specs.Limits.{ref_limit}

-- `0` to `9`
abbrev pub is_digit : ℕ → Bool
is_digit c = nat_le 48 c && nat_le c 57

-- the number that the digits write after those of another
abbrev pub value_from : ℕ → List ℕ → ℕ
value_from high [] = high
value_from high (c ∷ cs) = value_from (high * 10 + (c - 48)) cs

-- 1 to 18 digits, and the number that they write
pub record IsNumber (text : List ℕ) (n : ℕ) : Type 0 where
  pub some : 1 ≤ length text
  pub short : length text ≤ 18
  pub digits : AllPass is_digit text
  pub value : n ≡ value_from 0 text

-- none up to a space, no DEL, none of `^ : ~ ? * [ \`
abbrev pub is_ref_byte : ℕ → Bool
is_ref_byte c = nat_le 33 c && not (c == 127) && not (c == 94) && not (c == 58) && not (c == 126) && not (c == 63) && not (c == 42) && not (c == 91) && not (c == 92)

-- one byte to 1,024 bytes of a ref
pub record IsRef (text : List ℕ) : Type 0 where
  pub some : 1 ≤ length text
  pub short : length text ≤ ref_limit
  pub bytes : AllPass is_ref_byte text

-- no `<`, `>`, LF or NUL
abbrev pub is_person_byte : ℕ → Bool
is_person_byte c = not (c == 60) && not (c == 62) && not (c == 10) && not (c == 0)

-- a name and a space, or nothing
abbrev pub named : Option (List ℕ) → List ℕ
named None = []
named (Some name) = name ++ 32 ∷ []

-- `+` or `-`
abbrev pub IsSign : ℕ → Type 0
IsSign c = (c ≡ 43) ⊎ (c ≡ 45)

-- `name <email> seconds +zone`, where name and its space may lack
pub record IsPerson (text : List ℕ) : Type 0 where
  pub name : Option (List ℕ)
  pub email : List ℕ
  pub seconds : List ℕ
  pub sign : ℕ
  pub zone : List ℕ
  pub spelled : text ≡ named name ++ 60 ∷ (email ++ 62 ∷ 32 ∷ (seconds ++ 32 ∷ sign ∷ zone))
  pub name_bytes : AllPass is_person_byte (named name)
  pub email_bytes : AllPass is_person_byte email
  pub some_seconds : 1 ≤ length seconds
  pub few_seconds : length seconds ≤ 18
  pub seconds_digits : AllPass is_digit seconds
  pub is_sign : IsSign sign
  pub four : length zone ≡ 4
  pub zone_digits : AllPass is_digit zone

-- what stands before an email: nothing, or a name and a space
pub record IsNamed (text : List ℕ) : Type 0 where
  pub name : Option (List ℕ)
  pub spelled : text ≡ named name
  pub bytes : AllPass is_person_byte text

-- the sign and the four digits of a time zone
pub record IsZone (text : List ℕ) : Type 0 where
  pub sign : ℕ
  pub digits : List ℕ
  pub spelled : text ≡ sign ∷ digits
  pub is_sign : IsSign sign
  pub four : length digits ≡ 4
  pub zone_digits : AllPass is_digit digits

-- 1 to 18 digits
pub record IsSeconds (text : List ℕ) : Type 0 where
  pub some : 1 ≤ length text
  pub few : length text ≤ 18
  pub digits : AllPass is_digit text

-- what stands after an email
pub record IsDate (text : List ℕ) : Type 0 where
  pub seconds : List ℕ
  pub zone : List ℕ
  pub spelled : text ≡ 32 ∷ (seconds ++ 32 ∷ zone)
  pub are_seconds : IsSeconds seconds
  pub is_zone : IsZone zone
