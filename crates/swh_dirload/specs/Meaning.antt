-- What a folder with its listing means, or how it breaks. A listing that is not there is one of no lines.
use Rattle.std.specs.Prelude.{◌≡◌, ◌↔◌, ◌⊎◌, ◌<◌, ◌≤◌, ℕ, List, [], ◌∷◌, ◌++◌, Contains}
use Rattle.std.specs.List.{AllByRecursion}
use Rattle.swh_base.specs.declared.kind.Kind.{Kind}
use Rattle.swh_base.specs.declared.kind.Kind.TheVariants.{Snapshot}
use Rattle.swh_base.specs.declared.entry.Entry.{Entry}
use Rattle.swh_base.specs.declared.visit.Which.{Which}
use Rattle.swh_base.specs.declared.visit.Which.TheVariants.{Body}
use Rattle.swh_base.specs.Limits.{body_limit}
use Rattle.swh_base.specs.Directory.{DirectoryEntry}
use Rattle.swh_base.specs.Snapshot.{IsSnapshot}
use Rattle.swh_outside.specs.Folder.{Tree}
use Rattle.swh_outside.specs.declared.folder.What.TheVariants as item
use Rattle.swh_model.specs.Meaning.{Made}
use Rattle.swh_dedup.specs.Making.{made, object_of}
use Rattle.swh_dedup.specs.Giving.{AreNew}
use Rattle.swh_listing.specs.declared.listed.Listed.{Listed}
use Rattle.swh_listing.specs.Listing.{IsListing}
use Rattle.swh_dirmade.specs.declared.member.Member.{Member}
use Rattle.swh_dirmade.specs.Spots.{Places}
use Rattle.swh_dirmade.specs.Directories.{AreDirectories, IsDirectoryOf, HasSize, directory_id}
use Rattle.swh_dirmade.specs.Snapshots.{head}
use Rattle.swh_dirload.specs.declared.fault.DirFault.{DirFault}
use Rattle.swh_dirload.specs.declared.fault.DirFault.TheVariants.{OtherKind, BadModes, Limit, ReadFault, Memory}
use Rattle.swh_dirload.specs.Items.{Item}
use Rattle.swh_dirload.specs.Lines.{BreaksAfter, PassesAfter}
use Rattle.swh_dirload.specs.Places.{places_of, TakesAll}
use Rattle.swh_dirload.specs.Reading.{ReadsAll, StopsAt}
use Rattle.swh_dirload.specs.Walk.{IsWalk, ExplainsWalk}

-- No directory of these items is longer than a body may be.
abbrev pub AreShort : Places → List Item → Type 0
AreShort places items = AllByRecursion (λ i. i.1 ≡ item.Folder → (size : ℕ) × HasSize places i.0 size × (size ≤ body_limit)) items

-- The directory of one of these items is longer than a body may be, so many bytes, and it is the first such.
pub record IsFirstLong (places : Places) (items : List Item) (size : ℕ) : Type 0 where
  pub before : List Item
  pub dir : List ℕ
  pub rest : List Item
  pub cut : items ≡ before ++ (dir, item.Folder) ∷ rest
  pub short : AreShort places before
  pub is : HasSize places dir size
  pub long : body_limit < size

module _ (id : Kind → List ℕ → List ℕ) (tree : Tree) where
  -- The folder is walked and its files are read: of these items this stands there, and these contents are given.
  pub record ReadsFolder (items : List Item) (places : Places) (contents : List Entry) : Type 0 where
    pub found : List Member
    pub total : ℕ
    pub walk : IsWalk tree items
    pub reads : ReadsAll id tree 0 [] items found total contents
    pub are : (path : List ℕ) → places path ≡ places_of items found path

  -- The same, and none of its directories is longer than a body may be.
  pub record HasFolder (items : List Item) (places : Places) (contents : List Entry) : Type 0 where
    pub reads : ReadsFolder items places contents
    pub short : AreShort places items

  -- The same, and all lines of the listing are taken.
  pub record ReadsBoth (text : List ℕ) (items : List Item) (places : Places) (contents : List Entry) : Type 0 where
    pub before : Places
    pub folder : HasFolder items before contents
    pub said : List Listed
    pub listing : IsListing text said
    pub takes : TakesAll before said places

  -- The objects and the snapshot of the folder with its listing: the contents of its files, the directories of all its
  -- folders, empty ones too, and the snapshot whose one branch is `HEAD`, to the directory of the folder itself.
  pub record MeansFolder (text : List ℕ) (objects : List Entry) (snapshot : List ℕ) : Type 0 where
    pub items : List Item
    pub places : Places
    pub contents : List Entry
    pub reads : ReadsBoth text items places contents
    pub short : AreShort places items
    pub entries : List ℕ → List DirectoryEntry
    pub directories : AreDirectories id places entries
    pub body : List ℕ
    pub is_snapshot : IsSnapshot body (head (directory_id id (entries [])) ∷ [])
    pub named : snapshot ≡ id Snapshot body
    pub each : (m : Made) → Contains (made objects) m ↔ (Contains (made contents) m ⊎ (IsDirectoryOf id places entries m ⊎ (m ≡ object_of Snapshot body)))
    pub once : AreNew id [] objects

  -- The files of the folder pass a limit.
  pub record StopsReading (fault : DirFault) : Type 0 where
    pub items : List Item
    pub walk : IsWalk tree items
    pub stops : StopsAt id tree [] items fault

  -- The folder has a directory of so many bytes, which is the first of the path walk that is longer than a body may be.
  pub record HasLong (size : ℕ) : Type 0 where
    pub items : List Item
    pub places : Places
    pub contents : List Entry
    pub reads : ReadsFolder items places contents
    pub first : IsFirstLong places items size

  -- The listing breaks at this line, over the folder.
  pub record BreaksAt (text : List ℕ) (line : ℕ) : Type 0 where
    pub items : List Item
    pub before : Places
    pub contents : List Entry
    pub folder : HasFolder items before contents
    pub breaks : BreaksAfter before text line

  -- The listing passes a limit, over the folder.
  pub record PassesAtLine (text : List ℕ) (which : Which) (number : ℕ) : Type 0 where
    pub items : List Item
    pub before : Places
    pub contents : List Entry
    pub folder : HasFolder items before contents
    pub passes : PassesAfter before text which number

  -- By the projects of the listing the folder has a directory of so many bytes, the first of the path walk that is longer
  -- than a body may be.
  pub record HasLongListed (text : List ℕ) (size : ℕ) : Type 0 where
    pub items : List Item
    pub places : Places
    pub contents : List Entry
    pub reads : ReadsBoth text items places contents
    pub first : IsFirstLong places items size

  -- The limit that the folder passes: a path of its walk, a file or the files together, or a directory.
  abbrev pub PassesInFolder : Which → ℕ → Type 0
  PassesInFolder which number = ExplainsWalk tree (Limit which number) ⊎ (StopsReading (Limit which number) ⊎ ((which ≡ Body) × HasLong number))

  -- The limit that the listing passes: a line of it or its whole, or a directory with its projects.
  abbrev pub PassesInListing : List ℕ → Which → ℕ → Type 0
  PassesInListing text which number = PassesAtLine text which number ⊎ ((which ≡ Body) × HasLongListed text number)

  -- The folder or its listing breaks in this way: why it means nothing. The folder's own faults come before the listing's.
  abbrev pub BreaksFolder : List ℕ → DirFault → Type 0
  BreaksFolder text (OtherKind path) = ExplainsWalk tree (OtherKind path)
  BreaksFolder text (BadModes line) = BreaksAt text line
  BreaksFolder text (Limit which number) = PassesInFolder which number ⊎ PassesInListing text which number
  BreaksFolder text ReadFault = ⊥
  BreaksFolder text Memory = ⊥

  -- Why there are no objects. Of a folder or a source that fails and of want of memory nothing is said.
  abbrev pub ExplainsFolder : List ℕ → DirFault → Type 0
  ExplainsFolder text (OtherKind path) = BreaksFolder text (OtherKind path)
  ExplainsFolder text (BadModes line) = BreaksFolder text (BadModes line)
  ExplainsFolder text (Limit which number) = BreaksFolder text (Limit which number)
  ExplainsFolder text ReadFault = Unit {0}
  ExplainsFolder text Memory = Unit {0}
