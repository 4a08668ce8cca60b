-- What the reading of the next line finds.
use Rattle.std.specs.Prelude.{◌≡◌, ℕ, ◌+◌, nat_lt, if◌then◌else◌, List}
use Rattle.swh_base.specs.Limits.{line_limit}
use Rattle.swh_base.specs.declared.visit.Which.TheVariants.{Body, Objects, Bytes, Store, Ledger, Stream, Line, Path, Ref, Refs}
use Rattle.swh_fastlex.specs.Line.{Held, unread}
use Rattle.swh_fastlex.specs.declared.fault.LineFault.{LineFault}
use Rattle.swh_fastlex.specs.declared.fault.LineFault.TheVariants.{Failed, End, Limit as Long, Memory as NoRoom}
use Rattle.swh_listing.specs.declared.fault.ListingFault.{ListingFault}
use Rattle.swh_listing.specs.declared.fault.ListingFault.TheVariants.{BadModes, Limit, ReadFault, Memory}
use Rattle.swh_listing.specs.declared.limits.TheConstants.{LISTING_LIMIT}
use Rattle.swh_listing.specs.declared.listed.Listed.{Listed}
use Rattle.swh_listing.specs.Line.{SaysListed, PassesPathIn}
use Rattle.swh_listing.specs.Listing.{TakesLine, behind}
use Rattle.swh_listing.specs.Fault.{Breaks}

-- The line says this, and passes no limit of its words.
pub record SaysWithin (line : List ℕ) (listed : Listed) : Type 0 where
  pub says : SaysListed line listed
  pub fits : (number : ℕ) → PassesPathIn line number → ⊥

-- Why a line of this number says nothing.
abbrev pub ExplainsLine : List ℕ → ℕ → ListingFault → Type 0
ExplainsLine line count (BadModes number) = (number ≡ count) × ((listed : Listed) → SaysListed line listed → ⊥) × ((number : ℕ) → PassesPathIn line number → ⊥)
ExplainsLine line count (Limit Body number) = ⊥
ExplainsLine line count (Limit Objects number) = ⊥
ExplainsLine line count (Limit Bytes number) = ⊥
ExplainsLine line count (Limit Store number) = ⊥
ExplainsLine line count (Limit Ledger number) = ⊥
ExplainsLine line count (Limit Stream number) = ⊥
ExplainsLine line count (Limit Line number) = ⊥
ExplainsLine line count (Limit Path number) = PassesPathIn line number
ExplainsLine line count (Limit Ref number) = ⊥
ExplainsLine line count (Limit Refs number) = ⊥
ExplainsLine line count ReadFault = ⊥
ExplainsLine line count Memory = Unit {0}

-- a listing that is too long
abbrev pub too_long : ListingFault
too_long = Limit Stream (LISTING_LIMIT + 1)

-- what is told where no line is given and this many bytes were given out
abbrev pub told : LineFault → ℕ → ℕ → ListingFault
told Failed place count = ReadFault
told End place count = if nat_lt LISTING_LIMIT place then too_long else BadModes count
told Long place count = if nat_lt place LISTING_LIMIT then Limit Line (line_limit + 1) else too_long
told NoRoom place count = Memory

-- A line that says this was given out with its LF.
pub record TakesListed (before now : Held) (left left_now : List ℕ) (listed : Listed) : Type 0 where
  pub line : List ℕ
  pub takes : TakesLine before.place (unread before left) line (unread now left_now)
  pub says : SaysListed line listed
  pub here : now.place ≡ behind before.place line

-- Why no listing is given. Of a source that fails and of want of memory nothing is said.
abbrev pub Explains : List ℕ → ListingFault → Type 0
Explains text (BadModes line) = Breaks text (BadModes line)
Explains text (Limit which number) = Breaks text (Limit which number)
Explains text ReadFault = Unit {0}
Explains text Memory = Unit {0}
