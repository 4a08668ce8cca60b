-- Modes listings: what a text says as one, line by line.
use Rattle.std.specs.Prelude.{◌≡◌, ◌<◌, ◌+◌, ℕ, List, [], ◌∷◌, ◌++◌, length, Contains}
use Rattle.swh_base.specs.Limits.{line_limit}
use Rattle.swh_listing.specs.declared.limits.TheConstants.{LISTING_LIMIT}
use Rattle.swh_listing.specs.declared.listed.Listed.{Listed}
use Rattle.swh_listing.specs.Line.{SaysListed, PassesPathIn}

-- The text, which stands at this place of a listing, begins with this line and its LF, which no limit of lines and of
-- listings cuts off; then comes the rest.
pub record HasLine (at : ℕ) (text line rest : List ℕ) : Type 0 where
  pub cut : text ≡ line ++ 10 ∷ rest
  pub one_line : Contains line 10 → ⊥
  pub short : length line < line_limit
  pub within : at + length line < LISTING_LIMIT

-- The text begins with this line, which passes no limit; then comes the rest.
pub record TakesLine (at : ℕ) (text line rest : List ℕ) : Type 0 where
  pub whole : HasLine at text line rest
  pub fits : (number : ℕ) → PassesPathIn line number → ⊥

-- the place behind a line and its LF
abbrev pub behind : ℕ → List ℕ → ℕ
behind at line = at + length line + 1

-- The text at a place begins with lines that say these, and the rest stands at another place.
abbrev pub Reads : ℕ → List ℕ → List Listed → ℕ → List ℕ → Type 0
Reads at text [] here rest = (at ≡ here) × (text ≡ rest)
Reads at text (listed ∷ more) here rest = (line : List ℕ) × (next : List ℕ) × TakesLine at text line next × SaysListed line listed × Reads (behind at line) next more here rest

-- The whole text is a listing of these lines, and passes no limit.
abbrev pub IsListing : List ℕ → List Listed → Type 0
IsListing text lines = (here : ℕ) × Reads 0 text lines here []
