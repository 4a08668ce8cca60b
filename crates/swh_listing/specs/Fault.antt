-- Why a text is no listing within the limits: its first line that is none, or the first limit that it passes. A limit stands
-- before the form for the same bytes.
use Rattle.std.specs.Prelude.{◌≡◌, ◌≢◌, ◌⊎◌, ◌<◌, ◌≤◌, ◌+◌, ℕ, List, [], ◌∷◌, ◌++◌, length, Contains}
use Rattle.swh_base.specs.Limits.{line_limit, path_limit}
use Rattle.swh_base.specs.declared.visit.Which.{Which}
use Rattle.swh_base.specs.declared.visit.Which.TheVariants.{Body, Objects, Bytes, Store, Ledger, Stream, Line, Path, Ref, Refs}
use Rattle.swh_listing.specs.declared.fault.ListingFault.{ListingFault}
use Rattle.swh_listing.specs.declared.fault.ListingFault.TheVariants.{BadModes, Limit, ReadFault, Memory}
use Rattle.swh_listing.specs.declared.limits.TheConstants.{LISTING_LIMIT}
use Rattle.swh_listing.specs.declared.listed.Listed.{Listed}
use Rattle.swh_listing.specs.Line.{SaysListed, PassesPathIn}
use Rattle.swh_listing.specs.Listing.{HasLine, TakesLine, Reads}

-- The text begins with these bytes of one line, after which comes one byte more.
pub record GoesOn (text before : List ℕ) : Type 0 where
  pub byte : ℕ
  pub rest : List ℕ
  pub cut : text ≡ before ++ byte ∷ rest
  pub one_line : Contains before 10 → ⊥

-- The next line has the byte after the last that a listing may have, and no byte before it that no line may have.
pub record PassesListing (at : ℕ) (text : List ℕ) : Type 0 where
  pub before : List ℕ
  pub goes : GoesOn text before
  pub full : at + length before ≡ LISTING_LIMIT
  pub short : length before ≤ line_limit

-- The next line has the byte after the last that a line may have, and no byte before it that no listing may have.
pub record PassesLine (at : ℕ) (text : List ℕ) : Type 0 where
  pub before : List ℕ
  pub goes : GoesOn text before
  pub full : length before ≡ line_limit
  pub within : at + length before < LISTING_LIMIT

-- The next line is whole, and its path is longer than a path may be.
pub record PassesNextPath (at : ℕ) (text : List ℕ) (number : ℕ) : Type 0 where
  pub line : List ℕ
  pub rest : List ℕ
  pub whole : HasLine at text line rest
  pub passes : PassesPathIn line number

-- The next line is whole and passes no limit, and says nothing.
pub record IsNoLine (at : ℕ) (text : List ℕ) : Type 0 where
  pub line : List ℕ
  pub rest : List ℕ
  pub takes : TakesLine at text line rest
  pub says_none : (listed : Listed) → SaysListed line listed → ⊥

-- The text ends before an LF, and passes no limit.
pub record IsCut (at : ℕ) (text : List ℕ) : Type 0 where
  pub some : text ≢ []
  pub no_feed : Contains text 10 → ⊥
  pub short : length text ≤ line_limit
  pub within : at + length text ≤ LISTING_LIMIT

-- The next line passes this limit; the text begins at this place of the listing.
abbrev pub NextPasses : ℕ → List ℕ → Which → ℕ → Type 0
NextPasses at text Body number = ⊥
NextPasses at text Objects number = ⊥
NextPasses at text Bytes number = ⊥
NextPasses at text Store number = ⊥
NextPasses at text Ledger number = ⊥
NextPasses at text Stream number = (number ≡ LISTING_LIMIT + 1) × PassesListing at text
NextPasses at text Line number = (number ≡ line_limit + 1) × PassesLine at text
NextPasses at text Path number = PassesNextPath at text number
NextPasses at text Ref number = ⊥
NextPasses at text Refs number = ⊥

-- Why the next line, of this number, is not given. Of a source that fails and of want of memory nothing is said.
abbrev pub NextBreaks : ℕ → List ℕ → ℕ → ListingFault → Type 0
NextBreaks at text count (BadModes line) = (line ≡ count) × (IsNoLine at text ⊎ IsCut at text)
NextBreaks at text count (Limit which number) = NextPasses at text which number
NextBreaks at text count ReadFault = Unit {0}
NextBreaks at text count Memory = Unit {0}

-- The text begins with whole lines, and the next one breaks.
pub record Breaks (text : List ℕ) (fault : ListingFault) : Type 0 where
  pub lines : List Listed
  pub here : ℕ
  pub rest : List ℕ
  pub reads : Reads 0 text lines here rest
  pub breaks : NextBreaks here rest (length lines + 1) fault

-- The text is no listing within the limits, for this reason.
abbrev pub IsFault : List ℕ → ListingFault → Type 0
IsFault text (BadModes line) = Breaks text (BadModes line)
IsFault text (Limit which number) = Breaks text (Limit which number)
IsFault text ReadFault = ⊥
IsFault text Memory = ⊥

-- A listing may be refused for this, whatever it is.
abbrev pub MayBreak : ListingFault → Type 0
MayBreak (BadModes line) = 1 ≤ line
MayBreak (Limit Body number) = ⊥
MayBreak (Limit Objects number) = ⊥
MayBreak (Limit Bytes number) = ⊥
MayBreak (Limit Store number) = ⊥
MayBreak (Limit Ledger number) = ⊥
MayBreak (Limit Stream number) = number ≡ LISTING_LIMIT + 1
MayBreak (Limit Line number) = number ≡ line_limit + 1
MayBreak (Limit Path number) = path_limit < number
MayBreak (Limit Ref number) = ⊥
MayBreak (Limit Refs number) = ⊥
MayBreak ReadFault = Unit {0}
MayBreak Memory = Unit {0}
