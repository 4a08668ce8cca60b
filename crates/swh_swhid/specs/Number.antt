-- Numbers and ranges: SWHID v1.2, fragment qualifiers. A number has at most 18 digits here.
use Rattle.std.specs.Prelude.{◌≡◌, ℕ, ◌+◌, ◌-◌, ◌*◌, ◌^◌, ◌<◌, ◌≤◌, List, [], ◌∷◌, ◌++◌, length, slice_index, take, Option, Some, None, IfSome, decimal}
use Rattle.std.specs.List.{AllByRecursion}
use Rattle.std.specs.Int.{IsInRange}

-- the first number that has more digits than fit
abbrev pub number_limit : ℕ
number_limit = 10 ^ 18

-- The text spells the number, which is at least the first.
pub record IsNumberText (least : ℕ) (text : List ℕ) (number : ℕ) : Type 0 where
  pub low : least ≤ number
  pub small : number < number_limit
  pub spelled : text ≡ decimal number

-- The text is a number of at least the first.
pub record HasNumber (least : ℕ) (text : List ℕ) : Type 0 where
  pub number : ℕ
  pub is : IsNumberText least text number

-- a number, or two with a `-` between them
abbrev pub range_text : ℕ → Option ℕ → List ℕ
range_text first None = decimal first
range_text first (Some last) = decimal first ++ 45 ∷ decimal last

-- numbers that fit, the first at least `least`, the second at least the first
pub record IsRange (least first : ℕ) (more : Option ℕ) : Type 0 where
  pub low : least ≤ first
  pub small : first < number_limit
  pub last : IfSome more (λ last. (first ≤ last) × (last < number_limit))

-- The text is a range of at least the first.
pub record HasRange (least : ℕ) (text : List ℕ) : Type 0 where
  pub first : ℕ
  pub more : Option ℕ
  pub range : IsRange least first more
  pub spelled : text ≡ range_text first more

-- `0` to `9`
abbrev pub IsDigit : ℕ → Type 0
IsDigit c = IsInRange 48 57 c

-- the number that the digits write after those of another
abbrev pub read_on : ℕ → List ℕ → ℕ
read_on n [] = n
read_on n (c ∷ ds) = read_on (n * 10 + (c - 48)) ds

-- Some number of at least the first begins with the digits, whose value this is.
pub record BeginsNumber (least : ℕ) (digits : List ℕ) (value : ℕ) : Type 0 where
  pub are_digits : AllByRecursion IsDigit digits
  pub few : length digits ≤ 18
  pub no_zero : slice_index digits 0 ≡ 48 → length digits ≡ 1
  pub only_zero : slice_index digits 0 ≡ 48 → least ≡ 0
  pub is : value ≡ read_on 0 digits
  pub enough : least < (value + 1) * 10 ^ (18 - length digits)

-- No zero stands before other digits, and `0` alone only where the first is 0.
abbrev pub ZerosAllow : ℕ → ℕ → ℕ → ℕ → Type 0
ZerosAllow least value count c = (0 < count → 0 < value) × (count ≡ 0 → c ≡ 48 → least ≡ 0)

-- Behind `count` digits that write `value` the byte `c` may come as one more: some number of at least `least` begins
-- with them all.
pub record MayTakeDigit (least value count c : ℕ) : Type 0 where
  pub digit : IsDigit c
  pub room : count < 18
  pub zeros : ZerosAllow least value count c
  pub enough : least < (value * 10 + (c - 48) + 1) * 10 ^ (17 - count)

-- the longest digits at the front of the text that some number of at least the first begins with
pub record IsNumberFront (least : ℕ) (text : List ℕ) (value count : ℕ) : Type 0 where
  pub within : count ≤ length text
  pub goes_on : BeginsNumber least (take count text) value
  pub stops : count < length text → MayTakeDigit least value count (slice_index text count) → ⊥
