-- The lines of a listing, taken one after another.
use Rattle.std.specs.Prelude.{◌≡◌, ◌⊎◌, ◌<◌, ◌≤◌, ◌+◌, ℕ, List, [], ◌∷◌, ◌++◌, length, slice_set}
use Rattle.swh_base.specs.declared.visit.Which.{Which}
use Rattle.swh_fastlex.specs.Path.{IsPath}
use Rattle.swh_listing.specs.declared.fault.ListingFault.TheVariants as listing
use Rattle.swh_listing.specs.declared.listed.Listed.{Listed}
use Rattle.swh_listing.specs.declared.listed.Mode.{Mode}
use Rattle.swh_listing.specs.Listing.{Reads, IsListing}
use Rattle.swh_listing.specs.Fault.{NextBreaks}
use Rattle.swh_dirload.specs.declared.fault.DirFault.{DirFault}
use Rattle.swh_dirload.specs.declared.fault.DirFault.TheVariants.{OtherKind, BadModes, Limit, ReadFault, Memory}
use Rattle.swh_dirload.specs.declared.lookup.Lookup.{Lookup}
use Rattle.swh_dirload.specs.declared.lookup.Lookup.TheVariants.{Here, Free, Lost}
use Rattle.swh_dirmade.specs.declared.member.Member.{Member}
use Rattle.swh_dirmade.specs.declared.member.Member.TheVariants as stands
use Rattle.swh_dirmade.specs.declared.spot.Spot.{Spot}
use Rattle.swh_dirload.specs.declared.taking.Taken.{Taken}
use Rattle.swh_dirload.specs.declared.taking.Taken.TheVariants.{Yes, No}
use Rattle.swh_dirmade.specs.Spots.{Places, path_to, place_at, Stand}
use Rattle.swh_dirload.specs.Places.{MayTake, take, TakesAll}

-- a line of this mode and path
abbrev pub line_of : Mode → List ℕ → Listed
line_of mode path = record { mode = mode; path = path }

-- The file at a number gets this mode, or is none that may get one.
abbrev pub SetsMode : List Member → ℕ → ℕ → List Member → Taken → Type 0
SetsMode old number mode new Yes = (id : List ℕ) × (place_at old number ≡ stands.File 100644 id) × (new ≡ slice_set old number (stands.File mode id))
SetsMode old number mode new No = (new ≡ old) × ((id : List ℕ) → place_at old number ≡ stands.File 100644 id → ⊥)

-- The same of the file to which a path leads, if it leads to one.
abbrev pub TakesMode : Lookup → List Member → ℕ → List Member → Taken → Type 0
TakesMode (Here number) old mode new taken = SetsMode old number mode new taken
TakesMode (Free above name) old mode new taken = (taken ≡ No) × (new ≡ old)
TakesMode Lost old mode new taken = (taken ≡ No) × (new ≡ old)

-- a spot of this name in the folder of a number
abbrev pub spot_of : ℕ → List ℕ → Spot
spot_of above name = record { above = above; name = name }

-- A project's revision is added under a name in the folder of a number, unless no folder has it.
abbrev pub AddsProject : ℕ → List ℕ → List ℕ → List Spot → List Member → List Spot → List Member → Taken → Type 0
AddsProject above name id spots standing spots_now standing_now Yes = (place_at standing above ≡ stands.Folder) × (spots_now ≡ spots ++ spot_of above name ∷ []) × (standing_now ≡ standing ++ stands.Project id ∷ [])
AddsProject above name id spots standing spots_now standing_now No = (spots_now ≡ spots) × (standing_now ≡ standing) × (place_at standing above ≡ stands.Folder → ⊥)

-- The line is taken where it may come, and then this stands; else it may not come. It has a path.
abbrev pub IsTaken : Places → Mode → List ℕ → List Spot → List Member → Taken → Type 0
IsTaken before mode path spots standing Yes = MayTake before mode path × Stand spots standing (take before (line_of mode path))
IsTaken before mode path spots standing No = IsPath path → MayTake before mode path → ⊥

-- The table goes on from an old one: what stood there has its number and its path still, and the folders are those of the
-- old one.
pub record GoesOn (spots : List Spot) (standing : List Member) (spots_now : List Spot) (standing_now : List Member) : Type 0 where
  pub more : length spots ≤ length spots_now
  pub paths : (number : ℕ) → number < length spots → path_to spots_now number ≡ path_to spots number
  pub folders : (number : ℕ) → number < length spots_now → place_at standing_now number ≡ stands.Folder → (number < length spots) × (place_at standing number ≡ stands.Folder)
  pub stay : (number : ℕ) → number < length spots → place_at standing number ≡ stands.Folder → place_at standing_now number ≡ stands.Folder

-- The listing breaks at this line: each before it is one that may come, and it is none, or may not come after them.
pub record BreaksAfter (before : Places) (text : List ℕ) (line : ℕ) : Type 0 where
  pub said : List Listed
  pub here : ℕ
  pub rest : List ℕ
  pub reads : Reads 0 text said here rest
  pub places : Places
  pub takes : TakesAll before said places
  pub number : line ≡ length said + 1
  pub breaks : NextBreaks here rest line (listing.BadModes line) ⊎ ((listed : Listed) × (more : List ℕ) × (now : ℕ) × Reads here rest (listed ∷ []) now more × (MayTake places listed.mode listed.path → ⊥))

-- The listing passes a limit, and each line before that is one that may come.
pub record PassesAfter (before : Places) (text : List ℕ) (which : Which) (number : ℕ) : Type 0 where
  pub said : List Listed
  pub here : ℕ
  pub rest : List ℕ
  pub reads : Reads 0 text said here rest
  pub places : Places
  pub takes : TakesAll before said places
  pub breaks : NextBreaks here rest (length said + 1) (listing.Limit which number)

-- Why the lines of a listing are not taken after these places. Of a source that fails and of want of memory nothing is said.
abbrev pub ExplainsLines : Places → List ℕ → DirFault → Type 0
ExplainsLines before text (OtherKind path) = ⊥
ExplainsLines before text (BadModes line) = BreaksAfter before text line
ExplainsLines before text (Limit which number) = PassesAfter before text which number
ExplainsLines before text ReadFault = Unit {0}
ExplainsLines before text Memory = Unit {0}

-- All lines of the listing are taken, and then this stands.
pub record AreTaken (before : Places) (text : List ℕ) (spots : List Spot) (standing : List Member) : Type 0 where
  pub said : List Listed
  pub listing : IsListing text said
  pub places : Places
  pub takes : TakesAll before said places
  pub stand : Stand spots standing places
