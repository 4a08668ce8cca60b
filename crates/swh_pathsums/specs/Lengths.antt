-- How long the text is that rows have, where each row has a text of its own: so many bytes by its entry, and maybe its path,
-- quoted where it has to be.
use Rattle.std.specs.Prelude.{◌≡◌, ◌⊎◌, ◌+◌, ◌<◌, ◌^◌, ℕ, Bool, true, false, List, [], ◌∷◌, length}
use Rattle.swh_base.specs.declared.name.Name.{Name}
use Rattle.swh_base.specs.Directory.{DirectoryEntry}
use Rattle.swh_model.specs.Archive.{Bodies}
use Rattle.swh_graph.specs.Path.{directory_name}
use Rattle.swh_fastwrite.specs.Quoted.{quoted_path}
use Rattle.swh_pathwalk.specs.Tree.{Row, IsPathWalk}
use Rattle.swh_pathsums.specs.declared.weight.Weight.{Weight}

-- The number is this one, or both are more than 2 to the 32nd.
abbrev pub IsUpTo : ℕ → ℕ → Type 0
IsUpTo exact found = (found ≡ exact) ⊎ ((2 ^ 32 < found) × (2 ^ 32 < exact))

-- how long a path is as it is written, where it is written
abbrev pub path_length : Bool → List ℕ → ℕ
path_length true path = length (quoted_path path)
path_length false path = 0

module _ (weigh : DirectoryEntry → Weight) where
  -- how long the text of a row is
  abbrev pub row_length : Row → ℕ
  row_length row = (weigh row.entry).bytes + path_length (weigh row.entry).with_path row.path

  -- how long the texts of rows are together
  abbrev pub rows_length : List Row → ℕ
  rows_length [] = 0
  rows_length (row ∷ rows) = row_length row + rows_length rows

-- The number is the length of the texts of all rows under the directory of this id, or both are more than 2 to the 32nd.
abbrev pub IsLengthUnder : Bodies → (DirectoryEntry → Weight) → List ℕ → ℕ → Type 0
IsLengthUnder bodies weigh id found = (rows : List Row) → IsPathWalk bodies (directory_name id) rows → IsUpTo (rows_length weigh rows) found
