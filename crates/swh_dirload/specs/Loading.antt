-- A folder with its listing, loaded step by step.
use Rattle.std.specs.Prelude.{◌≡◌, ◌↔◌, ◌⊎◌, ℕ, List, [], ◌∷◌, length, Contains}
use Rattle.swh_base.specs.declared.kind.Kind.{Kind}
use Rattle.swh_base.specs.declared.kind.Kind.TheVariants.{Snapshot}
use Rattle.swh_base.specs.declared.entry.Entry.{Entry}
use Rattle.swh_base.specs.declared.visit.Which.TheVariants.{Body}
use Rattle.swh_base.specs.Directory.{DirectoryEntry}
use Rattle.swh_base.specs.Snapshot.{IsSnapshot}
use Rattle.swh_outside.specs.Folder.{Tree}
use Rattle.swh_model.specs.Meaning.{Made}
use Rattle.swh_dedup.specs.Making.{made, object_of}
use Rattle.swh_dirmade.specs.declared.member.Member.{Member}
use Rattle.swh_dirmade.specs.declared.spot.Spot.{Spot}
use Rattle.swh_dirmade.specs.Directories.{AreDirectories, IsDirectoryOf, directory_id}
use Rattle.swh_dirmade.specs.Sizes.{IsFirstLong}
use Rattle.swh_dirmade.specs.Snapshots.{head}
use Rattle.swh_dirmade.specs.Spots.{Places, IsTable, Stand}
use Rattle.swh_dirload.specs.declared.fault.DirFault.{DirFault}
use Rattle.swh_dirload.specs.declared.fault.DirFault.TheVariants.{OtherKind, BadModes, Limit, ReadFault, Memory}
use Rattle.swh_dirload.specs.Found.{HavePaths}
use Rattle.swh_dirload.specs.Items.{Item}
use Rattle.swh_dirload.specs.Lines.{GoesOn, AreTaken}
use Rattle.swh_dirload.specs.Places.{places_of}
use Rattle.swh_dirload.specs.Reading.{ReadsAll}
use Rattle.swh_dirload.specs.Walk.{IsWalk}

-- The table has all that stands in the folder, by its walk, and the contents of its files are given.
pub record HasTable (id : Kind → List ℕ → List ℕ) (tree : Tree) (spots : List Spot) (standing : List Member) (contents : List Entry) : Type 0 where
  pub items : List Item
  pub total : ℕ
  pub walk : IsWalk tree items
  pub reads : ReadsAll id tree 0 [] items standing total contents
  pub paths : HavePaths spots items
  pub count : length spots ≡ length items
  pub stand : Stand spots standing (places_of items standing)

-- Why the lengths of a table's directories are refused: one is longer than a body may be. Of want of memory nothing is said.
abbrev pub ExplainsLength : List Spot → List Member → DirFault → Type 0
ExplainsLength spots standing (OtherKind path) = ⊥
ExplainsLength spots standing (BadModes line) = ⊥
ExplainsLength spots standing (Limit which number) = (which ≡ Body) × IsFirstLong spots standing number
ExplainsLength spots standing ReadFault = ⊥
ExplainsLength spots standing Memory = Unit {0}

-- After all lines of the listing a directory is longer than a body may be, which went on from the old table.
pub record IsLongAfter (before : Places) (text : List ℕ) (spots : List Spot) (standing : List Member) (spots_now : List Spot) (standing_now : List Member) (fault : DirFault) : Type 0 where
  pub taken : AreTaken before text spots_now standing_now
  pub goes : GoesOn spots standing spots_now standing_now
  pub table : IsTable spots_now
  pub long : ExplainsLength spots_now standing_now fault

-- The objects and the snapshot of these places, beside the contents that were given.
pub record MakesAll (id : Kind → List ℕ → List ℕ) (places : Places) (contents objects : List Entry) (snapshot : List ℕ) : Type 0 where
  pub entries : List ℕ → List DirectoryEntry
  pub directories : AreDirectories id places entries
  pub body : List ℕ
  pub is_snapshot : IsSnapshot body (head (directory_id id (entries [])) ∷ [])
  pub named : snapshot ≡ id Snapshot body
  pub each : (m : Made) → Contains (made objects) m ↔ (Contains (made contents) m ⊎ (IsDirectoryOf id places entries m ⊎ (m ≡ object_of Snapshot body)))
