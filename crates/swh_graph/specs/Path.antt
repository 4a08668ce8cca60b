-- Where a path leads from a directory.
use Rattle.std.specs.Prelude.{◌≡◌, ◌≢◌, ℕ, ◌==◌, if◌then◌else◌, ◌⊎◌, List, [], ◌∷◌, ◌++◌, None, Contains, length}
use Rattle.std.specs.List.{flat_map, AllByRecursion}
use Rattle.swh_base.specs.declared.kind.Kind.TheVariants.{Content, Directory, Revision}
use Rattle.swh_base.specs.declared.name.Name.{Name}
use Rattle.swh_base.specs.Directory.{DirectoryEntry}
use Rattle.swh_model.specs.Archive.{Bodies, body_of, IsHeld}
use Rattle.swh_graph.specs.Answer.{GraphAnswer, Found, Missing, Nowhere}
use Rattle.swh_graph.specs.Holding.{HoldsDirectory}

-- the name of the directory with this id
abbrev pub directory_name : List ℕ → Name
directory_name id = record { kind = Directory; id = id }

-- what an entry leads to: a folder, a revision of another project, or a file
abbrev pub target_of : DirectoryEntry → Name
target_of entry =
    if entry.mode == 40000 then directory_name entry.id
    else if entry.mode == 160000 then record { kind = Revision; id = entry.id }
    else record { kind = Content; id = entry.id }

-- A slash before each of the components gives a slash and the path, and none of them holds one.
pub record AreComponents (path : List ℕ) (components : List (List ℕ)) : Type 0 where
  pub text : 47 ∷ path ≡ flat_map (λ component. 47 ∷ component) components
  pub plain : AllByRecursion (λ component. Contains component 47 → ⊥) components

-- A directory is held under the name, and this is its entry of that name.
pub record HasEntry (bodies : Bodies) (place : Name) (component : List ℕ) (entry : DirectoryEntry) : Type 0 where
  pub folder : place.kind ≡ Directory
  pub entries : List DirectoryEntry
  pub holds : HoldsDirectory bodies place entries
  pub there : Contains entries entry
  pub named : entry.name ≡ component

-- The components lead from the first name to the second, each to an entry and on to what the entry leads to.
abbrev pub Follows : Bodies → Name → List (List ℕ) → Name → Type 0
Follows bodies from [] to = from ≡ to
Follows bodies from (c ∷ cs) to = (entry : DirectoryEntry) × (HasEntry bodies from c entry × Follows bodies (target_of entry) cs to)

-- The components lead from the root to this place before this one of them.
pub record Passes (bodies : Bodies) (root : Name) (components before : List (List ℕ)) (place : Name) (next : List ℕ) : Type 0 where
  pub behind : List (List ℕ)
  pub cut : components ≡ before ++ next ∷ behind
  pub follows : Follows bodies root before place

-- The components lead from the root to this entry.
pub record IsEntryAt (bodies : Bodies) (root : Name) (components : List (List ℕ)) (entry : DirectoryEntry) : Type 0 where
  pub before : List (List ℕ)
  pub last : List ℕ
  pub cut : components ≡ before ++ last ∷ []
  pub place : Name
  pub follows : Follows bodies root before place
  pub is : HasEntry bodies place last entry

-- The name is that of a directory on the way, not at its end, that is not held.
pub record IsPathGap (bodies : Bodies) (root : Name) (components : List (List ℕ)) (name : Name) : Type 0 where
  pub before : List (List ℕ)
  pub next : List ℕ
  pub passes : Passes bodies root components before name next
  pub folder : name.kind ≡ Directory
  pub missing : body_of bodies name ≡ None

-- This is no directory, or one that is held and has no such entry.
abbrev pub LeadsNowhere : Bodies → Name → List ℕ → Type 0
LeadsNowhere bodies place component =
    (place.kind ≢ Directory) ⊎ (IsHeld bodies place × ((entry : DirectoryEntry) → HasEntry bodies place component entry → ⊥))

-- The component of this number, from 0, is the first that leads nowhere.
pub record IsPathEnd (bodies : Bodies) (root : Name) (components : List (List ℕ)) (number : ℕ) : Type 0 where
  pub before : List (List ℕ)
  pub next : List ℕ
  pub place : Name
  pub passes : Passes bodies root components before place next
  pub number_is : number ≡ length before
  pub nowhere : LeadsNowhere bodies place next

-- what is answered to who asks for the entry at these components
abbrev pub IsEntryAnswer : Bodies → Name → List (List ℕ) → GraphAnswer DirectoryEntry → Type 0
IsEntryAnswer bodies root components (Found entry) = IsEntryAt bodies root components entry
IsEntryAnswer bodies root components (Missing name) = IsPathGap bodies root components name
IsEntryAnswer bodies root components (Nowhere number) = IsPathEnd bodies root components number

-- what is answered to who asks for the entry at a path from a directory
pub record IsPathAnswer (bodies : Bodies) (root : Name) (path : List ℕ) (answer : GraphAnswer DirectoryEntry) : Type 0 where
  pub components : List (List ℕ)
  pub are : AreComponents path components
  pub is : IsEntryAnswer bodies root components answer
