-- The table of what stands in a folder, also by a listing. Each spot names the folder that it stands in by that folder's
-- number.
use Rattle.std.specs.Prelude.{◌≡◌, ◌≢◌, ◌<◌, ◌≤◌, ◌+◌, ◌-◌, ℕ, List, [], ◌∷◌, ◌++◌, length, map, slice_index_or, Option, Some, None}
use Rattle.std.specs.List.{AllByRecursion}
use Rattle.swh_base.specs.Directory.{IsEntryName}
use Rattle.swh_dirmade.specs.declared.member.Member.{Member}
use Rattle.swh_dirmade.specs.declared.member.Member.TheVariants as stands
use Rattle.swh_dirmade.specs.declared.spot.Spot.{Spot}
use Rattle.swh_dirmade.specs.Paths.{child}

-- what stands at each path
abbrev pub Places : Type 0
Places = List ℕ → Option Member

-- the path of a number, and the empty one past their end
abbrev pub path_at : List (List ℕ) → ℕ → List ℕ
path_at paths number = slice_index_or paths number []

-- the path of a spot, where folders have these paths
abbrev pub path_in : List (List ℕ) → Spot → List ℕ
path_in paths spot = child (path_at paths spot.above) spot.name

-- the paths of a table behind these
abbrev pub paths_behind : List (List ℕ) → List Spot → List (List ℕ)
paths_behind paths [] = paths
paths_behind paths (s ∷ spots) = paths_behind (paths ++ path_in paths s ∷ []) spots

-- the paths of a table
abbrev pub paths_of : List Spot → List (List ℕ)
paths_of spots = paths_behind [] spots

-- the path of a spot, by its number
abbrev pub path_to : List Spot → ℕ → List ℕ
path_to spots number = path_at (paths_of spots) number

-- the number of a spot's folder
abbrev pub above_at : List Spot → ℕ → ℕ
above_at spots number = slice_index_or (map (λ s. s.above) spots) number 0

-- the name of a spot
abbrev pub name_at : List Spot → ℕ → List ℕ
name_at spots number = slice_index_or (map (λ s. s.name) spots) number []

-- what stands at a number
abbrev pub place_at : List Member → ℕ → Member
place_at standing number = slice_index_or standing number stands.Folder

-- The number of its folder is below this one. The first spot is the folder itself, which has no name.
pub record IsPlaced (number : ℕ) (spot : Spot) : Type 0 where
  pub above : spot.above ≤ number - 1
  pub first : number ≡ 0 → spot.name ≡ []

-- Each is placed, from this number on.
abbrev pub ArePlaced : ℕ → List Spot → Type 0
ArePlaced number [] = Unit {0}
ArePlaced number (s ∷ spots) = IsPlaced number s × ArePlaced (number + 1) spots

-- Two stand in different folders, or have different names.
abbrev pub AreApart : Spot → Spot → Type 0
AreApart a b = a.above ≡ b.above → a.name ≡ b.name → ⊥

-- Each has a good name, and none stands in the folder of another under its name.
abbrev pub AreNamed : List Spot → Type 0
AreNamed [] = Unit {0}
AreNamed (s ∷ spots) = IsEntryName s.name × AllByRecursion (AreApart s) spots × AreNamed spots

-- those behind the first, which is the folder itself
abbrev pub AreNamedBehind : List Spot → Type 0
AreNamedBehind [] = Unit {0}
AreNamedBehind (s ∷ spots) = AreNamed spots

-- The table begins with the folder itself; each other spot stands behind its folder, and none under the name of another.
pub record IsTable (spots : List Spot) : Type 0 where
  pub some : 0 < length spots
  pub placed : ArePlaced 0 spots
  pub named : AreNamedBehind spots

-- No spot has this path.
abbrev pub IsFree : List Spot → List ℕ → Type 0
IsFree spots path = (number : ℕ) → number < length spots → path_to spots number ≢ path

-- What stands at the paths of a table, and nowhere else.
pub record Stand (spots : List Spot) (standing : List Member) (places : Places) : Type 0 where
  pub there : (number : ℕ) → number < length spots → places (path_to spots number) ≡ Some (place_at standing number)
  pub nowhere : (path : List ℕ) → IsFree spots path → places path ≡ None
