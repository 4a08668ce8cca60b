-- The objects of directories.
use Rattle.std.specs.Prelude.{◌≡◌, ◌<◌, ◌≤◌, ℕ, suc, List, [], ◌∷◌, ◌++◌, length}
use Rattle.swh_base.specs.declared.entry.Entry.{Entry as Object}
use Rattle.swh_base.specs.declared.kind.Kind.{Kind}
use Rattle.swh_base.specs.declared.kind.Kind.TheVariants.{Directory}
use Rattle.swh_base.specs.Directory.{DirectoryEntry, directory_text}
use Rattle.swh_base.specs.Limits.{body_limit}
use Rattle.swh_trees.specs.declared.fault.TreeFault.{TreeFault}
use Rattle.swh_trees.specs.declared.fault.TreeFault.TheVariants.{Memory, TooLong}
use Rattle.swh_trees.specs.Directory.{directory_id}
use Rattle.swh_forest.specs.Forest.{Forest, Stands}
use Rattle.swh_trees.specs.Listing.{directory}
use Rattle.swh_folders.specs.Live.{IsPart}

-- The object is the directory of these entries.
pub record IsDirectoryObject (id_of : Kind → List ℕ → List ℕ) (entries : List DirectoryEntry) (o : Object) : Type 0 where
  pub kind : o.name.kind ≡ Directory
  pub id : o.name.id ≡ directory_id id_of entries
  pub body : o.body ≡ directory_text entries

-- The objects are the directories of these entries by their numbers, one of each, from this number on.
abbrev pub AreDirectoryObjects : (Kind → List ℕ → List ℕ) → (ℕ → List DirectoryEntry) → ℕ → List Object → Type 0
AreDirectoryObjects id_of entries_at from [] = Unit {0}
AreDirectoryObjects id_of entries_at from (o ∷ os) = IsDirectoryObject id_of (entries_at from) o × AreDirectoryObjects id_of entries_at (suc from) os

-- one object more, that of these entries
pub record AddsObject (id_of : Kind → List ℕ → List ℕ) (entries : List DirectoryEntry) (old new : List Object) : Type 0 where
  pub object : Object
  pub is : IsDirectoryObject id_of entries object
  pub added : new ≡ old ++ object ∷ []

-- The body of these entries is above the limit, unless memory ran out.
abbrev pub ExplainsEntries : List DirectoryEntry → TreeFault → Type 0
ExplainsEntries entries Memory = Unit {0}
ExplainsEntries entries (TooLong len) = (len ≡ length (directory_text entries)) × (body_limit < len)

-- The body of one of these directories is above the limit, unless memory ran out.
abbrev pub ExplainsAmong : (ℕ → List DirectoryEntry) → ℕ → ℕ → TreeFault → Type 0
ExplainsAmong entries_at from end Memory = Unit {0}
ExplainsAmong entries_at from end (TooLong len) = (n : ℕ) × (from ≤ n) × (n < end) × (len ≡ length (directory_text (entries_at n))) × (body_limit < len)

-- The body of a folder that stands here is above the limit, unless memory ran out.
abbrev pub ExplainsPart : (List DirectoryEntry → List ℕ) → Stands → TreeFault → Type 0
ExplainsPart id x Memory = Unit {0}
ExplainsPart id x (TooLong len) = (g : Forest) × IsPart x g × (len ≡ length (directory_text (directory id g))) × (body_limit < len)

-- the second list goes on from the first
pub record GoesOn (old new : List (List ℕ)) : Type 0 where
  pub more : List (List ℕ)
  pub is : new ≡ old ++ more
