-- The directories of a path map (git objects, tree), by recursion on the number of components.
use Rattle.std.specs.Prelude.{ℕ, zero, suc, ◌+◌, List, [], ◌∷◌, map, length, Option, Some, None}
use Rattle.std.specs.Ordering.{nat_cmp}
use Rattle.std.specs.declared.cmp.Ordering.{Ordering}
use Rattle.std.specs.declared.cmp.Ordering.TheVariants.{Less, Equal, Greater}
use Rattle.std.specs.Cmp.Lexicographic.{slice_cmp}
use Rattle.swh_base.specs.declared.kind.Kind.{Kind}
use Rattle.swh_base.specs.declared.kind.Kind.TheVariants.{Directory}
use Rattle.swh_base.specs.Directory.{DirectoryEntry, sort_key, directory_text}
use Rattle.swh_entries.specs.declared.entry.Leaf.{Leaf}
use Rattle.swh_forest.specs.PathMap.{PathMap, leaf_at, held_by}

-- the id of a directory of these entries
abbrev pub directory_id : (Kind → List ℕ → List ℕ) → List DirectoryEntry → List ℕ
directory_id id_of entries = id_of Directory (directory_text entries)

abbrev pub insert_by : Ordering → DirectoryEntry → DirectoryEntry → List DirectoryEntry → List DirectoryEntry → List DirectoryEntry
insert_by Less e f es more = e ∷ f ∷ es
insert_by Equal e f es more = f ∷ es
insert_by Greater e f es more = f ∷ more

-- into the order of directories, each entry once
abbrev pub insert_entry : DirectoryEntry → List DirectoryEntry → List DirectoryEntry
insert_entry e [] = e ∷ []
insert_entry e (f ∷ es) = insert_by (slice_cmp nat_cmp (sort_key e) (sort_key f)) e f es (insert_entry e es)

abbrev pub ordered : List DirectoryEntry → List DirectoryEntry
ordered [] = []
ordered (e ∷ es) = insert_entry e (ordered es)

abbrev pub first : List (List ℕ) → List ℕ
first [] = []
first (c ∷ p) = c

-- the entry of a name: what stands there, or else a folder of these entries
abbrev pub entry_at : (List DirectoryEntry → List ℕ) → List ℕ → Option Leaf → List DirectoryEntry → DirectoryEntry
entry_at id name (Some l) entries = record { mode = l.mode; name = name; id = l.id }
entry_at id name None entries = record { mode = 40000; name = name; id = id entries }

-- The directory of a map whose paths have at most this many components: an entry for each first component, a folder's
-- where paths go on. `id` gives the ids of folders by their entries.
abbrev pub directory_within : (List DirectoryEntry → List ℕ) → ℕ → PathMap → List DirectoryEntry
directory_within id zero m = []
directory_within id (suc depth) m = ordered (map (λ e. entry_at id (first e.0) (leaf_at (first e.0 ∷ []) m) (directory_within id depth (held_by (first e.0) m))) m)

-- no path has more components
abbrev pub depth_of : PathMap → ℕ
depth_of [] = 0
depth_of (e ∷ m) = length e.0 + depth_of m

-- The entries of the map's directory, by a namer's ids.
abbrev pub directory_of : (Kind → List ℕ → List ℕ) → PathMap → List DirectoryEntry
directory_of id_of m = directory_within (directory_id id_of) (depth_of m) m
