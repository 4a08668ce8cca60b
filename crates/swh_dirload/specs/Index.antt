-- The index of a table: the number of each spot but the first, by its folder and its name.
use Rattle.std.specs.Prelude.{◌≡◌, ◌<◌, ℕ, cond, List, ◌∷◌, ◌++◌, length, Option, Some}
use Rattle.std.specs.Global.{Vec}
use Rattle.std.specs.Int.{w64, to_be_bytes}
use Rattle.std.specs.Map.{lookup}
use Rattle.std.specs.Ordering.{nat_cmp, is_eq}
use Rattle.std.specs.Cmp.Lexicographic.{slice_cmp}
use Rattle.std.specs.Str.{bytes_eq}
use Rattle.swh_base.specs.Directory.{IsEntryName}
use Rattle.swh_dirload.specs.declared.lookup.Lookup.{Lookup}
use Rattle.swh_dirload.specs.declared.lookup.Lookup.TheVariants.{Here, Free, Lost}
use Rattle.swh_dirmade.specs.declared.spot.Spot.{Spot}
use Rattle.swh_dirmade.specs.Paths.{child}
use Rattle.swh_dirmade.specs.Spots.{path_to, above_at, name_at, IsFree}

-- what the name in the folder of a number is looked up by
abbrev pub key_text : ℕ → List ℕ → List ℕ
key_text above name = to_be_bytes w64 above ++ name

-- the number under a key
abbrev pub number_of : List (Vec ℕ × ℕ) → List ℕ → Option ℕ
number_of entries key = lookup (λ (k : Vec ℕ). is_eq (slice_cmp nat_cmp key k.items)) entries

-- The key leads to this number now, and every other where it led before.
abbrev pub Adds : List (Vec ℕ × ℕ) → List ℕ → ℕ → List (Vec ℕ × ℕ) → Type 0
Adds old key number new = (k : List ℕ) → number_of new k ≡ cond (bytes_eq k key) (Some number) (number_of old k)

-- The key leads to a spot behind the folder itself, among the first so many.
pub record LeadsTo (spots : List Spot) (count : ℕ) (key : List ℕ) (number : ℕ) : Type 0 where
  pub behind : 0 < number
  pub within : number < count
  pub spelled : key ≡ key_text (above_at spots number) (name_at spots number)

-- The index has each of the first spots but the folder itself, and nothing else.
pub record IsIndexTo (spots : List Spot) (count : ℕ) (entries : List (Vec ℕ × ℕ)) : Type 0 where
  pub known : (number : ℕ) → 0 < number → number < count → number_of entries (key_text (above_at spots number) (name_at spots number)) ≡ Some number
  pub there : (key : List ℕ) (number : ℕ) → number_of entries key ≡ Some number → LeadsTo spots count key number

-- It has all of them.
abbrev pub IsIndex : List Spot → List (Vec ℕ × ℕ) → Type 0
IsIndex spots entries = IsIndexTo spots (length spots) entries

-- A spot of this name is in the folder of a number.
pub record IsIn (spots : List Spot) (above : ℕ) (name : List ℕ) (number : ℕ) : Type 0 where
  pub behind : 0 < number
  pub within : number < length spots
  pub inside : above_at spots number ≡ above
  pub called : name_at spots number ≡ name

-- No spot has this name in the folder of a number.
abbrev pub HasNone : List Spot → ℕ → List ℕ → Type 0
HasNone spots above name = (number : ℕ) → IsIn spots above name number → ⊥

-- A folder on the way to the path is not there.
pub record IsCutOff (spots : List Spot) (path : List ℕ) : Type 0 where
  pub front : List ℕ
  pub rest : List ℕ
  pub cut : path ≡ front ++ 47 ∷ rest
  pub free : IsFree spots front

-- Nothing has the path, and what would be its folder stands at this number.
pub record MayAdd (spots : List Spot) (path : List ℕ) (above : ℕ) (name : List ℕ) : Type 0 where
  pub within : above < length spots
  pub named : IsEntryName name
  pub cut : path ≡ child (path_to spots above) name
  pub none : HasNone spots above name

-- where a path leads
abbrev pub LooksUp : List Spot → List ℕ → Lookup → Type 0
LooksUp spots path (Here number) = (number < length spots) × (path_to spots number ≡ path)
LooksUp spots path (Free above name) = MayAdd spots path above name
LooksUp spots path Lost = IsCutOff spots path
