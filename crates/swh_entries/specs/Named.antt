-- Names by their numbers.
use Rattle.std.specs.Prelude.{◌≡◌, ℕ, ◌+◌, ◌*◌, ◌%◌, ◌^◌, ◌<◌, ◌≤◌, cond, List, length, Option, Some, None}
use Rattle.std.specs.Global.{Vec}
use Rattle.std.specs.Ordering.{nat_cmp, is_eq}
use Rattle.std.specs.Cmp.Lexicographic.{slice_cmp}
use Rattle.std.specs.List.{fold}
use Rattle.std.specs.Map.{lookup}
use Rattle.swh_entries.specs.Keys.{name_at, texts}

-- the names in the order of their numbers
pub record Named : Type 0 where
  pub items : List (Vec ℕ)

-- names kept, and maybe more
pub record Extends (names names' : List (Vec ℕ)) : Type 0 where
  pub longer : length names ≤ length names'
  pub same_names : (i : ℕ) → i < length names → name_at (texts names') i ≡ name_at (texts names) i

-- a number with a byte behind it, as digits, of which 64 bits are kept
abbrev pub with_byte : ℕ → ℕ → ℕ
with_byte digest byte = ((digest * 257) % 2 ^ 64 + byte) % 2 ^ 64

-- a number for a name, which few others share
abbrev pub digest_of : List ℕ → ℕ
digest_of name = fold with_byte 0 name

-- the number of the first name that has a digest
abbrev pub first_of : List (ℕ × ℕ) → ℕ → Option ℕ
first_of firsts digest = lookup (λ (k : ℕ). is_eq (nat_cmp digest k)) firsts

-- the number that a name has by its bytes
abbrev pub number_of : List (Vec ℕ × ℕ) → List ℕ → Option ℕ
number_of others name = lookup (λ (k : Vec ℕ). is_eq (slice_cmp nat_cmp name k.items)) others

-- the number of a name, where the first that has its digest has this one
abbrev pub number_from : List (List ℕ) → List (Vec ℕ × ℕ) → List ℕ → Option ℕ → Option ℕ
number_from names others name None = None
number_from names others name (Some k) = cond (is_eq (slice_cmp nat_cmp name (name_at names k))) (Some k) (number_of others name)

-- the number that a name has in an index
abbrev pub number_in : List (Vec ℕ) → List (ℕ × ℕ) → List (Vec ℕ × ℕ) → List ℕ → Option ℕ
number_in names firsts others name = number_from (texts names) others name (first_of firsts (digest_of name))

-- The index has each name, with its number, and nothing else: so no name stands twice.
pub record IsIndex (names : List (Vec ℕ)) (firsts : List (ℕ × ℕ)) (others : List (Vec ℕ × ℕ)) : Type 0 where
  pub known : (n : ℕ) → n < length names → number_in names firsts others (name_at (texts names) n) ≡ Some n
  pub first : (digest n : ℕ) → first_of firsts digest ≡ Some n → n < length names
  pub within : (name : List ℕ) (n : ℕ) → number_of others name ≡ Some n → n < length names
  pub there : (name : List ℕ) (n : ℕ) → number_of others name ≡ Some n → name_at (texts names) n ≡ name
