-- Ways over folders to a directory, from some directories; and what is known of how long they are.
use Rattle.std.specs.Prelude.{◌≡◌, ◌⊎◌, ℕ, ◌+◌, ◌<◌, ◌≤◌, Option, Some, None, List, [], ◌∷◌, length, Contains}
use Rattle.std.specs.Map.{lookup}
use Rattle.std.specs.BTreeMap.{is_at}
use Rattle.swh_base.specs.declared.kind.Kind.{Kind}
use Rattle.swh_base.specs.declared.kind.Kind.TheVariants.{Content, Directory as DirectoryKind, Revision, Release, Snapshot}
use Rattle.swh_base.specs.declared.name.Name.{Name}
use Rattle.swh_base.specs.Name.{name_cmp}
use Rattle.swh_base.specs.Directory.{DirectoryEntry}
use Rattle.swh_base.specs.Limits.{path_limit}
use Rattle.swh_model.specs.Archive.{Bodies, body_of}
use Rattle.swh_graph.specs.Holding.{HoldsDirectory}
use Rattle.swh_carried.specs.Rules.{HasDirectoryEntry, LeadsOver, folder_name, way_length}

-- A path of so many bytes and one of the entries is longer than a path may be.
pub record HaveLong (way : ℕ) (entries : List DirectoryEntry) : Type 0 where
  pub entry : DirectoryEntry
  pub there : Contains entries entry
  pub long : path_limit < way + length entry.name

-- How long the ways are that are told of: each name with some lengths.
abbrev pub Ways : Type 1
Ways = Name → ℕ → Type 0

-- A way of no bytes leads to where ways start.
abbrev pub IsStart : List Name → Ways
IsStart starts to count = Contains starts to × (count ≡ 0)

module _ (bodies : Bodies) (starts : List Name) where
  -- A way of so many bytes leads to the directory from one of the starts, a slash behind each entry.
  pub record IsWay (to : Name) (count : ℕ) : Type 0 where
    pub start : Name
    pub starts_there : Contains starts start
    pub way : List DirectoryEntry
    pub leads : LeadsOver bodies start way to
    pub is : count ≡ way_length way

  -- A way leads to the directory over an entry of this one, which is this.
  pub record GoesOver (place : Name) (entry : DirectoryEntry) (to : Name) (count : ℕ) : Type 0 where
    pub before : ℕ
    pub way : IsWay place before
    pub folder : entry.mode ≡ 40000
    pub named : to ≡ folder_name entry.id
    pub is : count ≡ before + (length entry.name + 1)

  -- A way's last step is from this directory, over an entry of it.
  pub record StepsFrom (place to : Name) (count : ℕ) : Type 0 where
    pub entry : DirectoryEntry
    pub is_entry : HasDirectoryEntry bodies place entry
    pub goes : GoesOver place entry to count

  -- A way's last step is from one of these names.
  pub record StepsFromOne (names : List Name) (to : Name) (count : ℕ) : Type 0 where
    pub place : Name
    pub there : Contains names place
    pub step : StepsFrom place to count

  -- A way starts where it ends, or its last step is from one of these names.
  abbrev pub ComesFrom : List Name → Ways
  ComesFrom names to count = IsStart starts to count ⊎ StepsFromOne names to count

  -- A way's last step is over one of these entries of the directory.
  pub record GoesOverOne (place : Name) (entries : List DirectoryEntry) (to : Name) (count : ℕ) : Type 0 where
    pub entry : DirectoryEntry
    pub there : Contains entries entry
    pub goes : GoesOver place entry to count

-- What is known of some counts: none has the property; or one is at least this many, and none is more, unless this is more
-- than a path may be.
abbrev pub Tells : (ℕ → Type 0) → Option ℕ → Type 0
Tells Is None = (count : ℕ) → Is count → ⊥
Tells Is (Some most) = ((count : ℕ) × Is count × (most ≤ count)) × ((count : ℕ) → Is count → (count ≤ most) ⊎ (path_limit < most))

-- The entries tell of the ways to each name.
abbrev pub TellAll : Ways → List (Name × ℕ) → Type 0
TellAll Is entries = (name : Name) → Tells (Is name) (lookup (is_at (name_cmp name)) entries)

-- ways of the one kind or of the other
abbrev pub OrWays : Ways → Ways → Ways
OrWays Is Was name count = Is name count ⊎ Was name count

-- One more way to a name is told of: the longer of the two stands.
abbrev pub IsRaised : Option ℕ → ℕ → Option ℕ → Type 0
IsRaised None way found = found ≡ Some way
IsRaised (Some known) way found = (most : ℕ) × (found ≡ Some most) × (way ≤ most) × (known ≤ most) × ((most ≡ way) ⊎ (most ≡ known))

-- One more way to the name is told of, and of the others what was.
pub record Raises (to : Name) (way : ℕ) (old new : List (Name × ℕ)) : Type 0 where
  pub here : IsRaised (lookup (is_at (name_cmp to)) old) way (lookup (is_at (name_cmp to)) new)
  pub others : (name : Name) → (to ≡ name → ⊥) → lookup (is_at (name_cmp name)) new ≡ lookup (is_at (name_cmp name)) old

-- The way goes on over the entry, where that is a folder. Above the limit of a path no more is counted.
pub record RaisesOver (way : ℕ) (entry : DirectoryEntry) (old new : List (Name × ℕ)) : Type 0 where
  pub folder : entry.mode ≡ 40000 → (over : ℕ) × (over ≤ way + (length entry.name + 1)) × ((way + (length entry.name + 1) ≤ over) ⊎ (path_limit < over)) × Raises (folder_name entry.id) over old new
  pub other : (entry.mode ≡ 40000 → ⊥) → new ≡ old

-- The way goes on over each of these entries in turn, where that is a folder.
abbrev pub RaisesOverAll : ℕ → List DirectoryEntry → List (Name × ℕ) → List (Name × ℕ) → Type 0
RaisesOverAll way [] old new = new ≡ old
RaisesOverAll way (e ∷ es) old new = (middle : List (Name × ℕ)) × RaisesOver way e old middle × RaisesOverAll way es middle new

module _ (bodies : Bodies) where
  -- What a directory tells of, to which this way is the longest, if one leads there: ways over its folders.
  abbrev pub TellsOfFolders : Name → Option ℕ → List (Name × ℕ) → List (Name × ℕ) → Type 0
  TellsOfFolders name None old new = new ≡ old
  TellsOfFolders name (Some way) old new =
      ((entries : List DirectoryEntry) × HoldsDirectory bodies name entries × RaisesOverAll way entries old new) ⊎ ((body_of bodies name ≡ None) × (new ≡ old))

  -- What a name of this kind tells of: only a directory tells of ways over its folders.
  abbrev pub TellsOf : Name → Kind → List (Name × ℕ) → List (Name × ℕ) → Type 0
  TellsOf name Content old new = new ≡ old
  TellsOf name DirectoryKind old new = TellsOfFolders name (lookup (is_at (name_cmp name)) old) old new
  TellsOf name Revision old new = new ≡ old
  TellsOf name Release old new = new ≡ old
  TellsOf name Snapshot old new = new ≡ old
