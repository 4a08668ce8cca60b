-- What a loader holds between two commands: trees, marks and tips, and the objects that were given.
use Rattle.std.specs.Prelude.{◌≡◌, ◌≢◌, ℕ, ◌<◌, true, List, [], ◌∷◌, length, Contains}
use Rattle.std.specs.List.{AllByRecursion}
use Rattle.swh_base.specs.declared.kind.Kind.{Kind}
use Rattle.swh_base.specs.declared.kind.Kind.TheVariants.{Snapshot}
use Rattle.swh_base.specs.declared.name.Name.{Name}
use Rattle.swh_base.specs.declared.entry.Entry.{Entry}
use Rattle.swh_base.specs.Name.{IsId}
use Rattle.swh_base.specs.Text.{IsRef}
use Rattle.swh_base.specs.Directory.{IsEntryName, directory_text}
use Rattle.swh_model.specs.Meaning.{Made, directory}
use Rattle.swh_trees.specs.declared.tree.Tree.{Tree}
use Rattle.swh_entries.specs.declared.entry.Leaf.{Leaf}
use Rattle.swh_trees.specs.Grove.{Grove, folder_map, map_of, StandsFor}
use Rattle.swh_forest.specs.Roots.{IsBelow}
use Rattle.swh_forest.specs.Leaf.{IsLeafMode}
use Rattle.swh_forest.specs.PathMap.{PathMap, begins}
use Rattle.swh_trees.specs.Directory.{directory_of}
use Rattle.swh_dedup.specs.Making.{name_of, names_of_made, HaveIds}
use Rattle.swh_dedup.specs.Whole.{content_name}
use Rattle.swh_fastmeaning.specs.Aims.{Aim, AllAims, aims_with}
use Rattle.swh_fastmeaning.specs.Feeding.{Loading, Feeds}
use Rattle.swh_dedup.specs.Giving.{Gives}
use Rattle.swh_fastgrammar.specs.declared.command.Command.{Command}

-- trees, marks and tips, and the objects that were given
pub record Stock : Type 0 where
  pub grove : Grove
  pub aims : AllAims Tree
  pub given : List Made

abbrev pub stock : Grove → AllAims Tree → List Made → Stock
stock grove aims given = record { grove = grove; aims = aims; given = given }

-- as commands see them: trees are maps
abbrev pub loading_of : Stock → Loading
loading_of s = record { aims = aims_with (map_of s.grove) s.aims; given = s.given }

-- The mode is one of a leaf, the id has twenty bytes, and it is that of one of these contents but for a revision of another
-- project.
pub record IsLeafAmong (names : List Name) (l : Leaf) : Type 0 where
  pub mode : IsLeafMode l.mode
  pub id : IsId l.id
  pub content : l.mode ≢ 160000 → Contains names (content_name l.id)

-- The path is not empty, and what stands there is a leaf.
pub record IsFileAmong (names : List Name) (e : List (List ℕ) × Leaf) : Type 0 where
  pub some : e.0 ≢ []
  pub parts : AllByRecursion IsEntryName e.0
  pub leaf : IsLeafAmong names e.1

-- No path begins another.
abbrev pub IsFree : PathMap → Type 0
IsFree m = (p q : List (List ℕ)) (k l : Leaf) → Contains m (p, k) → Contains m (q, l) → begins p q ≡ true → p ≡ q

-- All that stands in the map are leaves.
abbrev pub AreFilesAmong : List Name → PathMap → Type 0
AreFilesAmong names m = AllByRecursion (IsFileAmong names) m

module _ (id : Kind → List ℕ → List ℕ) where
  -- The object was given, and its tree's objects were made.
  pub record IsAimAmong (folders : ℕ) (given : List Made) (aim : Aim Tree) : Type 0 where
    pub tree : IsBelow folders aim.tree.number
    pub named : Contains (names_of_made id given) aim.name
    pub kind : aim.name.kind ≢ Snapshot

  -- The ref is one, and what it leads to was given.
  pub record IsTipAmong (folders : ℕ) (given : List Made) (e : List ℕ × Aim Tree) : Type 0 where
    pub ref : IsRef e.0
    pub aim : IsAimAmong folders given e.1

  -- What marks and tips lead to was given.
  pub record AreAimsAmong (folders : ℕ) (given : List Made) (aims : AllAims Tree) : Type 0 where
    pub marks : AllByRecursion (λ e. IsAimAmong folders given e.1) aims.marks
    pub tips : AllByRecursion (IsTipAmong folders given) aims.tips

  -- The object of the folder of this number.
  abbrev pub folder_made : Grove → ℕ → Made
  folder_made grove n = directory (directory_text (directory_of id (folder_map grove n)))

  -- Each folder is made: its object was given, and the contents of its files.
  pub record IsGivenGrove (grove : Grove) (given : List Made) : Type 0 where
    pub whole : grove.made ≡ length grove.folders
    pub folders : (n : ℕ) → n < grove.made → Contains given (folder_made grove n)
    pub files : (n : ℕ) → n < grove.made → AreFilesAmong (names_of_made id given) (folder_map grove n)
    pub free : (n : ℕ) → n < grove.made → IsFree (folder_map grove n)

  -- Ids are whole, what marks and tips lead to was given, and so were the trees' objects.
  pub record IsStocked (s : Stock) : Type 0 where
    pub ids : HaveIds id s.given
    pub among : AreAimsAmong s.grove.made s.given s.aims
    pub trees : IsGivenGrove s.grove s.given

  -- The command's objects are given, and what is held afterwards is whole again.
  pub record Leads (old : Stock) (command : Command) (new : Stock) (objects : List Entry) : Type 0 where
    pub feeds : Feeds id (loading_of old) command (loading_of new) objects
    pub stocked : IsStocked new

  -- The object is given where it is new, and this is what a mark of it leads to.
  pub record GivesOwn (m : Made) (old new : List Made) (aim : Aim Tree) (objects : List Entry) : Type 0 where
    pub gives : Gives id (m ∷ []) old new objects
    pub name : aim.name ≡ name_of id m
    pub empty : (g : Grove) → StandsFor g aim.tree []
