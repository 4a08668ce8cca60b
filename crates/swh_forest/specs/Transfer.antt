-- What a copy and a rename make of a map (git-fast-import(1), filecopy, filerename).
use Rattle.std.specs.Prelude.{ℕ, List}
use Rattle.swh_forest.specs.declared.edits.Transfer.{Transfer}
use Rattle.swh_forest.specs.declared.edits.Transfer.TheVariants.{Copy, Rename}
use Rattle.swh_forest.specs.Forest.{Stands, Nothing, graft}
use Rattle.swh_forest.specs.PathMap.{PathMap, copy, rename}

-- What a transfer from the source to the target makes of a map.
abbrev pub transferred : Transfer → List (List ℕ) → List (List ℕ) → PathMap → PathMap
transferred Copy source target m = copy source target m
transferred Rename source target m = rename source target m

-- what stands here before anything is put at the target
abbrev pub left_by : Transfer → List (List ℕ) → Stands → Stands
left_by Copy source y = y
left_by Rename source y = graft source Nothing y
