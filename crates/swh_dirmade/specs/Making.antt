-- Directories, made of the entries of all that stands in a folder, in whatever order these are listed.
use Rattle.std.specs.Prelude.{◌≡◌, ◌≢◌, ◌⊎◌, ◌≤◌, ℕ, List, length, map, Contains, Some}
use Rattle.std.specs.List.{AllByRecursion, AllPairs}
use Rattle.std.specs.List.Sorted.{IsPermutation}
use Rattle.swh_base.specs.declared.kind.Kind.{Kind}
use Rattle.swh_base.specs.declared.kind.Kind.TheVariants.{Directory}
use Rattle.swh_base.specs.declared.name.Name.{Name}
use Rattle.swh_base.specs.declared.entry.Entry.{Entry}
use Rattle.swh_base.specs.Limits.{body_limit}
use Rattle.swh_base.specs.Directory.{DirectoryEntry, IsEntry, AreEntries, directory_text, child_of}
use Rattle.swh_object.specs.Object.{IsObject}
use Rattle.swh_model.specs.Meaning.{directory}
use Rattle.swh_dedup.specs.Making.{made_from}
use Rattle.swh_dedup.specs.Whole.{content_name}
use Rattle.swh_dirmade.specs.declared.member.Member.{Member}
use Rattle.swh_dirmade.specs.declared.member.Member.TheVariants as stands
use Rattle.swh_dirmade.specs.Giving.{GivesOne}
use Rattle.swh_dirmade.specs.Directories.{entry_of, directory_id}

-- A file's mode is one of files or of a link, and its content is one of these.
abbrev pub IsHeld : List Name → Member → Type 0
IsHeld names (stands.File mode content) = ((mode ≡ 100644) ⊎ ((mode ≡ 100755) ⊎ (mode ≡ 120000))) × Contains names (content_name content)
IsHeld names stands.Folder = Unit {0}
IsHeld names (stands.Project revision) = Unit {0}

-- the name of the directory of this id
abbrev pub directory_name : List ℕ → Name
directory_name id = record { kind = Directory; id = id }

-- It is an entry whose child, if it has one, is one of these.
pub record IsReadyEntry (names : List Name) (entry : DirectoryEntry) : Type 0 where
  pub good : IsEntry entry
  pub child : (name : Name) → child_of entry ≡ Some name → Contains names name

-- In another order these are entries that each are ready, with distinct names, and not too long together.
pub record MayBeDirectory (names : List Name) (list : List DirectoryEntry) : Type 0 where
  pub entries : List DirectoryEntry
  pub order : IsPermutation entries list
  pub ready : AllByRecursion (IsReadyEntry names) entries
  pub once : AllPairs (λ a b. a ≢ b) (map (λ e. e.name) entries)
  pub short : length (directory_text entries) ≤ body_limit

module _ (id : Kind → List ℕ → List ℕ) where
  -- The list, in order, is the directory of this object.
  pub record IsDirectoryObject (list entries : List DirectoryEntry) (object : Entry) : Type 0 where
    pub order : IsPermutation list entries
    pub good : AreEntries entries
    pub is : made_from object ≡ directory (directory_text entries)
    pub whole : IsObject id object

  -- The list, in order, is a directory of this id, which is given.
  pub record GivesDirectory (old : List Entry) (list : List DirectoryEntry) (new : List Entry) (entries : List DirectoryEntry) (root : List ℕ) : Type 0 where
    pub order : IsPermutation list entries
    pub good : AreEntries entries
    pub named : root ≡ directory_id id entries
    pub twenty : length root ≡ 20
    pub object : Entry
    pub is : made_from object ≡ directory (directory_text entries)
    pub whole : IsObject id object
    pub gives : GivesOne old object new

  -- The entry is that of what stands under a name; a folder's directory of this list is given.
  abbrev pub Enters : List ℕ → Member → List Entry → List DirectoryEntry → List Entry → List DirectoryEntry → Type 0
  Enters name (stands.File mode content) old list new below = new ≡ old
  Enters name stands.Folder old list new below = GivesDirectory old list new below (directory_id id below)
  Enters name (stands.Project revision) old list new below = new ≡ old

  pub record MakesEntry (name : List ℕ) (place : Member) (old : List Entry) (list : List DirectoryEntry) (new : List Entry) (entry : DirectoryEntry) : Type 0 where
    pub below : List DirectoryEntry
    pub is : entry ≡ entry_of id name below place
    pub good : IsEntry entry
    pub enters : Enters name place old list new below
