-- How far a walk over paths has come, and what its next step gives.
use Rattle.std.specs.Prelude.{◌≡◌, ◌≢◌, ◌⊎◌, ℕ, ◌<◌, ◌≤◌, Bool, true, false, Option, Some, None, List, [], ◌∷◌, ◌++◌, length, map, take, drop, reverse}
use Rattle.std.specs.List.{AllByRecursion}
use Rattle.swh_base.specs.declared.name.Name.{Name}
use Rattle.swh_base.specs.Directory.{DirectoryEntry}
use Rattle.swh_dirfmt.specs.declared.entry.SpelledEntry.{SpelledEntry}
use Rattle.swh_dirfmt.specs.Entries.{entry_of, entries_in_body}
use Rattle.swh_model.specs.Archive.{Bodies, body_of}
use Rattle.swh_graph.specs.Holding.{HoldsDirectory}
use Rattle.swh_graph.specs.Path.{directory_name}
use Rattle.swh_graph.specs.declared.fault.GraphFault.{GraphFault}
use Rattle.swh_graph.specs.declared.fault.GraphFault.TheVariants.{NotHeld, NoPath, Memory}
use Rattle.swh_pathwalk.specs.Tree.{Tree, entries_in, AreHeldUnder, Row, path_walk}
use Rattle.swh_pathwalk.specs.declared.walk.Level.{Level}

-- what leads to a directory, and those of its entries that are yet to come
pub record Coming : Type 0 where
  pub front : List ℕ
  pub entries : List DirectoryEntry

-- the path of what was given last, and what is yet to come, of the innermost directory first
pub record Standing : Type 0 where
  pub path : List ℕ
  pub levels : List Coming

-- a slash, but for the root
abbrev pub slash : Bool → List ℕ
slash true = 47 ∷ []
slash false = []

abbrev pub coming_at : List ℕ → Level → Coming
coming_at path l = record { front = take l.front path ++ slash l.nested; entries = entries_in_body (drop l.next l.entries.items) }

abbrev pub standing : List ℕ → List Level → Standing
standing path levels = record { path = path; levels = map (coming_at path) (reverse levels) }

-- Each directory, the innermost first, is at a front of the path of the one before.
abbrev pub AreNested : ℕ → List Level → Type 0
AreNested bound [] = Unit {0}
AreNested bound (l ∷ levels) = (l.front ≤ bound) × AreNested l.front levels

-- without the directories of which nothing is to come, up to the first of which something is
abbrev pub with_entries : List Coming → List Coming
with_entries [] = []
with_entries (l ∷ levels) = elim l.entries [ [] ↦ with_entries levels | _ ∷ _ ↦ l ∷ levels ]

-- The directory is held, and its entries come first.
pub record IsEntered (bodies : Bodies) (directory : Name) (old new : Standing) : Type 0 where
  pub entries : List DirectoryEntry
  pub holds : HoldsDirectory bodies directory entries
  pub path : new.path ≡ old.path
  pub levels : new.levels ≡ record { front = old.path ++ 47 ∷ []; entries = entries } ∷ old.levels

-- The walk is at the beginning of the directory.
pub record BeginsAt (bodies : Bodies) (directory : Name) (new : Standing) : Type 0 where
  pub entries : List DirectoryEntry
  pub holds : HoldsDirectory bodies directory entries
  pub path : new.path ≡ []
  pub levels : new.levels ≡ record { front = []; entries = entries } ∷ []

-- The entry is the first of the innermost directory of which something is to come, and was taken.
pub record ComesNext (old : Standing) (e : DirectoryEntry) (new : Standing) : Type 0 where
  pub front : List ℕ
  pub rest : List DirectoryEntry
  pub below : List Coming
  pub next : with_entries old.levels ≡ record { front = front; entries = e ∷ rest } ∷ below
  pub path : new.path ≡ front ++ e.name
  pub levels : new.levels ≡ record { front = front; entries = rest } ∷ below

-- what is taken of the innermost directory of which something is to come
abbrev pub Takes : Standing → Option SpelledEntry → Standing → Type 0
Takes old None new = with_entries old.levels ≡ []
Takes old (Some e) new = ComesNext old (entry_of e) new

-- The entry leads to no folder, or its directory is held and its entries come first.
abbrev pub ComesInside : Bodies → DirectoryEntry → List ℕ → List Coming → Type 0
ComesInside bodies e path inside =
    ((e.mode ≢ 40000) × (inside ≡ []))
    ⊎ ((entries : List DirectoryEntry) × (e.mode ≡ 40000) × HoldsDirectory bodies (directory_name e.id) entries × (inside ≡ record { front = path ++ 47 ∷ []; entries = entries } ∷ []))

-- The entry is the next, and this is what is yet to come behind it.
pub record GivesNext (bodies : Bodies) (old : Standing) (e : DirectoryEntry) (new : Standing) : Type 0 where
  pub front : List ℕ
  pub rest : List DirectoryEntry
  pub below : List Coming
  pub inside : List Coming
  pub next : with_entries old.levels ≡ record { front = front; entries = e ∷ rest } ∷ below
  pub path : new.path ≡ front ++ e.name
  pub comes : ComesInside bodies e new.path inside
  pub levels : new.levels ≡ inside ++ record { front = front; entries = rest } ∷ below

-- what a step gives
abbrev pub Steps : Bodies → Standing → Option SpelledEntry → Standing → Type 0
Steps bodies old None new = with_entries old.levels ≡ []
Steps bodies old (Some e) new = GivesNext bodies old (entry_of e) new

-- The next entry is a folder whose directory is not held.
pub record MissesNext (bodies : Bodies) (old : Standing) (missing : Name) : Type 0 where
  pub front : List ℕ
  pub e : DirectoryEntry
  pub rest : List DirectoryEntry
  pub below : List Coming
  pub next : with_entries old.levels ≡ record { front = front; entries = e ∷ rest } ∷ below
  pub folder : e.mode ≡ 40000
  pub named : missing ≡ directory_name e.id
  pub none : body_of bodies missing ≡ None

-- Why there is no step. It says nothing where memory ran out.
abbrev pub CannotStep : Bodies → Standing → GraphFault → Type 0
CannotStep bodies old (NotHeld missing) = MissesNext bodies old missing
CannotStep bodies old (NoPath number) = ⊥
CannotStep bodies old Memory = Unit {0}

-- The level is that of the directory, at this place of a path, and nothing was given of it.
pub record IsLevelOf (bodies : Bodies) (directory : Name) (front : ℕ) (nested : Bool) (level : Level) : Type 0 where
  pub holds : HoldsDirectory bodies directory (entries_in_body level.entries.items)
  pub front_is : level.front ≡ front
  pub nested_is : level.nested ≡ nested
  pub next_is : level.next ≡ 0

-- Nothing is to come of the directory.
abbrev pub IsEnded : Level → Type 0
IsEnded l = length l.entries.items ≤ l.next

-- The level is the innermost of which something is to come, and it was taken with those inside of it.
pub record IsPopped (old : List Level) (level : Level) (new : List Level) : Type 0 where
  pub ended : List Level
  pub cut : reverse old ≡ ended ++ level ∷ reverse new
  pub each : AllByRecursion IsEnded ended
  pub some : level.next < length level.entries.items

-- what is popped of levels
abbrev pub Pops : List Level → Option Level → List Level → Type 0
Pops old None new = AllByRecursion IsEnded (reverse old) × (new ≡ [])
Pops old (Some level) new = IsPopped old level new

-- The path goes on from its front of this length.
pub record GoesTo (front : ℕ) (old new : List ℕ) : Type 0 where
  pub tail : List ℕ
  pub is : new ≡ take front old ++ tail

-- These rows are yet to come.
abbrev pub Remain : Bodies → List Coming → List Row → Type 0
Remain bodies [] rows = rows ≡ []
Remain bodies (l ∷ levels) rows =
    (tree : Tree) × (more : List Row) × (entries_in tree ≡ l.entries) × AreHeldUnder bodies tree × Remain bodies levels more × (rows ≡ path_walk l.front tree ++ more)

-- the row of an entry that was given
abbrev pub row_of : Standing → SpelledEntry → Row
row_of new e = record { path = new.path; entry = entry_of e }
