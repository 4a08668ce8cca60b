-- The entry of one name in a directory's body.
use Rattle.std.specs.Prelude.{◌≡◌, ◌≢◌, ℕ, List, [], ◌∷◌, Some, Contains}
use Rattle.std.specs.List.{AllByRecursion}
use Rattle.swh_base.specs.declared.name.Name.{Name}
use Rattle.swh_base.specs.Directory.{DirectoryEntry, IsEntry, IsDirectory, directory_text}
use Rattle.swh_model.specs.Archive.{Bodies, body_of}

-- This body is held under the name, and is a directory.
pub record IsDirectoryHeld (bodies : Bodies) (name : Name) (body : List ℕ) : Type 0 where
  pub held : body_of bodies name ≡ Some body
  pub entries : List DirectoryEntry
  pub is : IsDirectory body entries

-- Whatever entries the bytes spell, this one is the first of them, and the rest spells the others.
abbrev pub TakesEntry : List ℕ → DirectoryEntry → List ℕ → Type 0
TakesEntry bytes entry rest =
    (entries : List DirectoryEntry) → AllByRecursion IsEntry entries → bytes ≡ directory_text entries → (more : List DirectoryEntry) × ((entries ≡ entry ∷ more) × (rest ≡ directory_text more))

-- The bytes spell no entry.
abbrev pub HasNoEntry : List ℕ → Type 0
HasNoEntry bytes = (entries : List DirectoryEntry) → AllByRecursion IsEntry entries → bytes ≡ directory_text entries → entries ≡ []

-- Whatever entries the body has, this is one of them and has the name.
abbrev pub IsNamedIn : List ℕ → List ℕ → DirectoryEntry → Type 0
IsNamedIn body name entry = (entries : List DirectoryEntry) → IsDirectory body entries → Contains entries entry × (entry.name ≡ name)

-- Whatever entries the body has, none of them has the name.
abbrev pub HasNoneNamed : List ℕ → List ℕ → Type 0
HasNoneNamed body name = (entries : List DirectoryEntry) → IsDirectory body entries → (entry : DirectoryEntry) → Contains entries entry → entry.name ≢ name
