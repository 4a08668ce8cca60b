-- The lengths that were found, by the directories.
use Rattle.std.specs.Prelude.{◌≡◌, ℕ, List, Option, Some, Contains}
use Rattle.swh_base.specs.declared.name.Name.{Name}
use Rattle.swh_base.specs.Directory.{DirectoryEntry}
use Rattle.swh_model.specs.Archive.{Bodies}
use Rattle.swh_graph.specs.Holding.{HoldsDirectory}
use Rattle.swh_graph.specs.Path.{directory_name}
use Rattle.swh_pathsums.specs.declared.weight.Weight.{Weight}
use Rattle.std.specs.Option.{option_map}
use Rattle.std.specs.BTreeMap.{get}
use Rattle.swh_base.specs.Name.{name_cmp}
use Rattle.swh_pathsums.specs.declared.sums.PathSums.{PathSums}
use Rattle.swh_pathsums.specs.Lengths.{IsLengthUnder}
use Rattle.swh_pathsums.specs.Tallies.{total_of}

-- Each entry of the directories in the order may be weighed.
abbrev pub MayWeighAll : Bodies → List Name → (DirectoryEntry → Type 0) → Type 0
MayWeighAll bodies order may_weigh =
    (id : List ℕ) (entries : List DirectoryEntry) (e : DirectoryEntry) → Contains order (directory_name id) → HoldsDirectory bodies (directory_name id) entries → Contains entries e → may_weigh e

-- the length of the directory of this id, if it was found
abbrev pub length_at : PathSums → List ℕ → Option ℕ
length_at lengths id = option_map total_of (get name_cmp lengths.sums (directory_name id))

-- The directory of this id has a length among these, and it is that of all rows under it.
pub record HasLength (bodies : Bodies) (weigh : DirectoryEntry → Weight) (sums : PathSums) (id : List ℕ) : Type 0 where
  pub found : ℕ
  pub there : length_at sums id ≡ Some found
  pub is : IsLengthUnder bodies weigh id found

-- Each directory in the order has its length among these.
abbrev pub AreLengths : Bodies → (DirectoryEntry → Weight) → List Name → PathSums → Type 0
AreLengths bodies weigh order sums = (id : List ℕ) → Contains order (directory_name id) → HasLength bodies weigh sums id
