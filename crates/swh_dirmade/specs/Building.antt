-- The directories of a table, made from its last spot to its first: so each folder comes after all that stands in it.
use Rattle.std.specs.Prelude.{◌≡◌, ◌⊎◌, ◌<◌, ◌≤◌, ℕ, suc, List, [], length, map, Contains, slice_index_or}
use Rattle.std.specs.List.Sorted.{IsPermutation}
use Rattle.std.specs.Global.{Vec}
use Rattle.swh_base.specs.declared.kind.Kind.{Kind}
use Rattle.swh_base.specs.declared.entry.Entry.{Entry}
use Rattle.swh_base.specs.Directory.{DirectoryEntry, AreEntries, directory_text}
use Rattle.swh_dirfmt.specs.declared.entry.DirEntry.{DirEntry}
use Rattle.swh_dirfmt.specs.Entries.{entry_views}
use Rattle.swh_model.specs.Meaning.{Made, directory}
use Rattle.swh_dedup.specs.Making.{made, names_of_made}
use Rattle.swh_dirmade.specs.declared.member.Member.{Member}
use Rattle.swh_dirmade.specs.declared.member.Member.TheVariants as stands
use Rattle.swh_dirmade.specs.declared.spot.Spot.{Spot}
use Rattle.swh_dirmade.specs.Directories.{entry_of}
use Rattle.swh_dirmade.specs.Making.{IsReadyEntry}
use Rattle.swh_dirmade.specs.Numbers.{numbers_from}
use Rattle.swh_dirmade.specs.Spots.{path_to, name_at, place_at}

-- lists of entries, as the grammar's
abbrev pub list_views : List (Vec DirEntry) → List (List DirectoryEntry)
list_views lists = map (λ list. entry_views list.items) lists

-- the list of a number, and an empty one past their end
abbrev pub list_at : List (List DirectoryEntry) → ℕ → List DirectoryEntry
list_at lists number = slice_index_or lists number []

module _ (id : Kind → List ℕ → List ℕ) (spots : List Spot) (standing : List Member) where
  -- the entry of the spot of a number, where the folders at paths have these entries
  abbrev pub entry_at : (List ℕ → List DirectoryEntry) → ℕ → DirectoryEntry
  entry_at entries number = entry_of id (name_at spots number) (entries (path_to spots number)) (place_at standing number)

  -- The folder of a number has its directory, which was made.
  pub record IsMade (entries : List ℕ → List DirectoryEntry) (new : List Entry) (number : ℕ) : Type 0 where
    pub good : AreEntries (entries (path_to spots number))
    pub all : IsPermutation (map (entry_at entries) (numbers_from spots number (suc number))) (entries (path_to spots number))
    pub given : Contains (made new) (directory (directory_text (entries (path_to spots number))))

  -- The object is the directory of a folder of a number from this one on.
  pub record IsOfNumber (from : ℕ) (entries : List ℕ → List DirectoryEntry) (m : Made) : Type 0 where
    pub number : ℕ
    pub low : from ≤ number
    pub high : number < length spots
    pub folder : place_at standing number ≡ stands.Folder
    pub is : m ≡ directory (directory_text (entries (path_to spots number)))

  -- The directories of the folders from a number on are made, and below it their entries are listed by folders.
  pub record AreBuilt (from : ℕ) (lists : List (List DirectoryEntry)) (old new : List Entry) (entries : List ℕ → List DirectoryEntry) : Type 0 where
    pub within : from ≤ length spots
    pub count : length lists ≡ from
    pub listed : (folder : ℕ) → folder < from → IsPermutation (map (entry_at entries) (numbers_from spots folder from)) (list_at lists folder)
    pub ready : (number : ℕ) → from ≤ number → 0 < number → number < length spots → IsReadyEntry (names_of_made id (made new)) (entry_at entries number)
    pub folders : (number : ℕ) → from ≤ number → number < length spots → place_at standing number ≡ stands.Folder → IsMade entries new number
    pub kept : (m : Made) → Contains (made old) m → Contains (made new) m
    pub only : (m : Made) → Contains (made new) m → Contains (made old) m ⊎ IsOfNumber from entries m

  -- The same with some entries.
  pub record Builds (from : ℕ) (lists : List (List DirectoryEntry)) (old new : List Entry) : Type 0 where
    pub entries : List ℕ → List DirectoryEntry
    pub are : AreBuilt from lists old new entries
