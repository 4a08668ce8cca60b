-- What a listing says of the paths of a folder: files with the modes and ids of their contents, folders, and
-- revisions of other projects.
use Rattle.std.specs.Prelude.{◌≡◌, ◌≢◌, ℕ, cond, List, [], ◌∷◌, Contains, Option, Some, None}
use Rattle.std.specs.Str.{bytes_eq}
use Rattle.swh_listing.specs.declared.listed.Listed.{Listed}
use Rattle.swh_listing.specs.declared.listed.Mode.{Mode}
use Rattle.swh_listing.specs.declared.listed.Mode.TheVariants.{Executable, Link, Project}
use Rattle.swh_dirmade.specs.declared.member.Member.{Member}
use Rattle.swh_dirmade.specs.declared.member.Member.TheVariants as stands
use Rattle.swh_dirmade.specs.Paths.{child}
use Rattle.swh_dirmade.specs.Spots.{Places}
use Rattle.swh_dirload.specs.Items.{Item}

-- the places of the items of a walk, before a listing says more of them
abbrev pub places_of : List Item → List Member → Places
places_of [] places = λ path. None
places_of (item ∷ items) [] = λ path. None
places_of (item ∷ items) (place ∷ places) = λ path. cond (bytes_eq path item.0) (Some place) (places_of items places path)

-- The path is a name in a folder.
pub record IsInFolder (places : Places) (path : List ℕ) : Type 0 where
  pub dir : List ℕ
  pub name : List ℕ
  pub cut : path ≡ child dir name
  pub some : name ≢ []
  pub one : Contains name 47 → ⊥
  pub folder : places dir ≡ Some stands.Folder

-- A line may come after these places: a mode where a file stands that no line before it names; a project's revision where
-- nothing stands, in a folder.
abbrev pub MayTake : Places → Mode → List ℕ → Type 0
MayTake places Executable path = (id : List ℕ) × (places path ≡ Some (stands.File 100644 id))
MayTake places Link path = (id : List ℕ) × (places path ≡ Some (stands.File 100644 id))
MayTake places (Project id) path = (places path ≡ None) × IsInFolder places path

-- a file with another mode
abbrev pub with_mode : ℕ → Option Member → Option Member
with_mode mode (Some (stands.File old id)) = Some (stands.File mode id)
with_mode mode (Some stands.Folder) = Some stands.Folder
with_mode mode (Some (stands.Project id)) = Some (stands.Project id)
with_mode mode None = None

-- what a line makes of what stands at its path
abbrev pub changed : Mode → Option Member → Option Member
changed Executable old = with_mode 100755 old
changed Link old = with_mode 120000 old
changed (Project id) old = Some (stands.Project id)

-- the places after a line
abbrev pub take : Places → Listed → Places
take places listed = λ path. cond (bytes_eq path listed.path) (changed listed.mode (places path)) (places path)

-- The lines may come one after the other, and make these places.
abbrev pub TakesAll : Places → List Listed → Places → Type 0
TakesAll places [] new = (path : List ℕ) → new path ≡ places path
TakesAll places (listed ∷ lines) new = MayTake places listed.mode listed.path × TakesAll (take places listed) lines new
