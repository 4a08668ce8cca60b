-- What rows sum up to, whose paths are those from one directory.
use Rattle.std.specs.Prelude.{◌≡◌, ◌≢◌, ◌⊎◌, ◌+◌, ◌*◌, ◌-◌, ◌^◌, ℕ, Bool, true, false, Option, Some, List, [], ◌∷◌, ◌++◌, length, map, min, Contains}
use Rattle.std.specs.List.{flat_map, list_any}
use Rattle.std.specs.BTreeMap.{BTreeMap, get}
use Rattle.swh_base.specs.declared.kind.Kind.TheVariants.{Directory}
use Rattle.swh_base.specs.declared.name.Name.{Name}
use Rattle.swh_base.specs.Name.{name_cmp}
use Rattle.swh_base.specs.Directory.{DirectoryEntry}
use Rattle.swh_base.specs.Reach.{IsChildIn}
use Rattle.swh_model.specs.Archive.{Bodies}
use Rattle.swh_graph.specs.Path.{directory_name}
use Rattle.swh_fastwrite.specs.Quoted.{is_quoted_byte, quoted_byte}
use Rattle.swh_pathwalk.specs.Tree.{Tree, entries_in, AreHeldUnder, Row, row_at, path_walk, IsPathWalk}
use Rattle.swh_pathwalk.specs.Weight.{total}
use Rattle.swh_pathsums.specs.declared.weight.Weight.{Weight}
use Rattle.swh_pathsums.specs.declared.tally.Tally.{Tally}
use Rattle.swh_pathsums.specs.declared.tally.Spelling.{Spelling}
use Rattle.swh_pathsums.specs.Lengths.{IsUpTo}

-- one for what is so
abbrev pub one_if : Bool → ℕ
one_if true = 1
one_if false = 0

-- the number where a path is written, and else nothing
abbrev pub where_written : Bool → ℕ → ℕ
where_written true n = n
where_written false n = 0

module _ (weigh : DirectoryEntry → Weight) where
  -- one where the path is written
  abbrev pub path_of : Row → ℕ
  path_of row = where_written (weigh row.entry).with_path 1

  -- one where the path is written and quoted
  abbrev pub quoted_of : Row → ℕ
  quoted_of row = where_written (weigh row.entry).with_path (one_if (list_any is_quoted_byte row.path))

  -- the bytes by the entry
  abbrev pub bytes_of : Row → ℕ
  bytes_of row = (weigh row.entry).bytes

  -- the bytes of the path, where it is written, but for the quotes round it
  abbrev pub spelled_of : Row → ℕ
  spelled_of row = where_written (weigh row.entry).with_path (length (flat_map quoted_byte row.path))

  -- This is what the rows sum up to, as far as numbers go.
  pub record Tallies (rows : List Row) (t : Tally) : Type 0 where
    pub path_count : IsUpTo (total path_of rows) t.paths
    pub quoted_count : IsUpTo (total quoted_of rows) t.quoted
    pub byte_count : IsUpTo (total bytes_of rows) t.bytes
    pub spelled_count : IsUpTo (total spelled_of rows) t.spelled

-- how long the texts of rows are together that sum up to this, as far as a number goes
abbrev pub total_of : Tally → ℕ
total_of t = min (min (t.bytes + t.spelled) (2 ^ 64 - 1) + min (t.quoted * 2) (2 ^ 64 - 1)) (2 ^ 64 - 1)

-- The name is spelled like this.
pub record IsSpelling (name : List ℕ) (s : Spelling) : Type 0 where
  pub is_quoted : s.quoted ≡ list_any is_quoted_byte name
  pub byte_count : IsUpTo (length (flat_map quoted_byte name)) s.bytes

-- a row at what leads to its directory
abbrev pub row_behind : List ℕ → Row → Row
row_behind front row = record { path = front ++ row.path; entry = row.entry }

module _ (bodies : Bodies) where
  -- These are the rows of an entry: its own, and those of the directory that it leads to behind its name.
  abbrev pub AreEntryRows : DirectoryEntry → List Row → Type 0
  AreEntryRows e rows =
      ((e.mode ≢ 40000) × (rows ≡ row_at [] e ∷ []))
      ⊎ ((inner : List Row) × (e.mode ≡ 40000) × IsPathWalk bodies (directory_name e.id) inner × (rows ≡ row_at [] e ∷ map (row_behind (e.name ++ 47 ∷ [])) inner))

  -- These are the rows of entries, one after another.
  abbrev pub AreRowsOver : List DirectoryEntry → List Row → Type 0
  AreRowsOver entries rows = (tree : Tree) × (entries_in tree ≡ entries) × AreHeldUnder bodies tree × (rows ≡ path_walk [] tree)

-- The directory of this id has these sums.
abbrev pub IsTallyAt : BTreeMap Name Tally → List ℕ → Tally → Type 0
IsTallyAt sums id t = get name_cmp sums (directory_name id) ≡ Some t

module _ (bodies : Bodies) (weigh : DirectoryEntry → Weight) where
  -- The sums of the directory of this id are there, and are those of all rows under it.
  pub record HasTally (sums : BTreeMap Name Tally) (id : List ℕ) : Type 0 where
    pub tally : Tally
    pub there : IsTallyAt sums id tally
    pub is : (rows : List Row) → IsPathWalk bodies (directory_name id) rows → Tallies weigh rows tally

  -- The sums of each directory among these names are there.
  abbrev pub HaveTallies : BTreeMap Name Tally → List Name → Type 0
  HaveTallies sums names = (id : List ℕ) → Contains names (directory_name id) → HasTally sums id

  -- The sums of the directories that are children of this one are there.
  abbrev pub HaveKids : (Name → Option (List Name)) → BTreeMap Name Tally → List ℕ → Type 0
  HaveKids children_of sums id = (kid : List ℕ) → IsChildIn children_of (directory_name id) (directory_name kid) → HasTally sums kid

  -- The sums of the directory of this id are there now, and all that were there.
  pub record GetsTally (old : BTreeMap Name Tally) (id : List ℕ) (new : BTreeMap Name Tally) : Type 0 where
    pub has : HasTally new id
    pub stay : (other : List ℕ) → HasTally old other → HasTally new other

  -- The same of a name, where it is a directory's.
  pub record GetsTallyOf (old : BTreeMap Name Tally) (name : Name) (new : BTreeMap Name Tally) : Type 0 where
    pub has : name.kind ≡ Directory → HasTally new name.id
    pub stay : (other : List ℕ) → HasTally old other → HasTally new other
