-- What a path map becomes where the files of a directory are set at their paths, and trees none of whose folders is empty.
use Rattle.std.specs.Prelude.{◌≢◌, ◌==◌, if◌then◌else◌, List, [], ◌∷◌}
use Rattle.swh_base.specs.Directory.{DirectoryEntry}
use Rattle.swh_entries.specs.declared.entry.Leaf.{Leaf}
use Rattle.swh_fastlex.specs.Path.{components}
use Rattle.swh_forest.specs.PathMap.{PathMap, set}
use Rattle.swh_pathwalk.specs.Tree.{Tree, End, Leaf as TreeLeaf, Folder, entries_in, Row}

-- what stands at the path of an entry that is no folder
abbrev pub leaf_of : DirectoryEntry → Leaf
leaf_of e = record { mode = e.mode; id = e.id }

-- an entry set at its path, unless it is a folder
abbrev pub with_row : Row → PathMap → PathMap
with_row row m = if row.entry.mode == 40000 then m else set (components row.path) (leaf_of row.entry) m

-- one after another
abbrev pub with_rows : List Row → PathMap → PathMap
with_rows [] m = m
with_rows (row ∷ rows) m = with_rows rows (with_row row m)

-- Each folder of the tree has an entry.
abbrev pub HasNoEmptyFolder : Tree → Type 0
HasNoEmptyFolder End = Unit {0}
HasNoEmptyFolder (TreeLeaf e rest) = HasNoEmptyFolder rest
HasNoEmptyFolder (Folder e inner rest) = (entries_in inner ≢ []) × HasNoEmptyFolder inner × HasNoEmptyFolder rest
