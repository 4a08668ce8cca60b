-- Trees as finite maps from paths, with no folders in them, and what changes make of them (git-fast-import(1), filemodify,
-- filedelete, filecopy, filerename). A path is the list of its components.
use Rattle.std.specs.Prelude.{◌≡◌, ℕ, Bool, true, false, not, ◌&&◌, ◌||◌, if◌then◌else◌, List, [], ◌∷◌, ◌++◌, filter, Option, Some, None}
use Rattle.std.specs.Ordering.{nat_cmp, is_lt}
use Rattle.std.specs.Cmp.Lexicographic.{slice_cmp}
use Rattle.std.specs.Str.{bytes_eq}
use Rattle.swh_entries.specs.declared.entry.Leaf.{Leaf}

-- each path with what stands there, in the order of git's directories; no path stands twice
abbrev pub PathMap : Type 0
PathMap = List (List (List ℕ) × Leaf)

-- whether two names are the same bytes
abbrev pub same : List ℕ → List ℕ → Bool
same a b = bytes_eq a b

-- whether two paths are the same
abbrev pub same_path : List (List ℕ) → List (List ℕ) → Bool
same_path [] [] = true
same_path [] (d ∷ q) = false
same_path (c ∷ p) [] = false
same_path (c ∷ p) (d ∷ q) = same c d && same_path p q

-- whether the first path is the second, or a front of it
abbrev pub begins : List (List ℕ) → List (List ℕ) → Bool
begins [] q = true
begins (c ∷ p) [] = false
begins (c ∷ p) (d ∷ q) = same c d && begins p q

-- what stands at the path itself
abbrev pub leaf_at : List (List ℕ) → PathMap → Option Leaf
leaf_at p [] = None
leaf_at p (e ∷ m) = if same_path e.0 p then Some e.1 else leaf_at p m

-- what a path is ordered by: its components, of which all but the last end in `/`
abbrev pub keys : List (List ℕ) → List (List ℕ)
keys [] = []
keys (c ∷ []) = (c ++ []) ∷ []
keys (c ∷ d ∷ p) = (c ++ 47 ∷ []) ∷ keys (d ∷ p)

-- whether the first path is ordered before the second
abbrev pub is_path_before : List (List ℕ) → List (List ℕ) → Bool
is_path_before p q = is_lt (slice_cmp (slice_cmp nat_cmp) (keys p) (keys q))

-- one path more, at its place
abbrev pub insert_path : List (List ℕ) → Leaf → PathMap → PathMap
insert_path p l [] = (p, l) ∷ []
insert_path p l (e ∷ m) = if is_path_before e.0 p then e ∷ insert_path p l m else (p, l) ∷ e ∷ m

-- without the path, all under it, and its proper fronts
abbrev pub cleared : List (List ℕ) → PathMap → PathMap
cleared p m = filter (λ e. not (begins p e.0 || begins e.0 p)) m

-- The leaf stands at the path, instead of what stood there, under it, and at its proper fronts.
abbrev pub set : List (List ℕ) → Leaf → PathMap → PathMap
set p l m = insert_path p l (cleared p m)

-- What stands at the path and under it is gone; nothing changes where nothing stands there.
abbrev pub delete : List (List ℕ) → PathMap → PathMap
delete p m = filter (λ e. not (begins p e.0)) m

-- the rest of this path after the name, where it begins with it, beside the rests of others
abbrev pub rest_beside : List ℕ → List (List ℕ) → Leaf → PathMap → PathMap
rest_beside name [] l m = m
rest_beside name (c ∷ p) l m = if same c name then (p, l) ∷ m else m

-- what stands at the name and under it, with the paths from there on
abbrev pub held_by : List ℕ → PathMap → PathMap
held_by name [] = []
held_by name (e ∷ m) = rest_beside name e.0 e.1 (held_by name m)

-- What stands at the path and under it, with the paths from there on: a file's is the empty path.
abbrev pub held : List (List ℕ) → PathMap → PathMap
held [] m = m
held (c ∷ p) m = held p (held_by c m)

-- each of the paths more, from this place on
abbrev pub insert_under : List (List ℕ) → PathMap → PathMap → PathMap
insert_under p [] m = m
insert_under p (e ∷ h) m = insert_path (p ++ e.0) e.1 (insert_under p h m)

-- All that is held stands at the path and under it, instead of what stood there, under it, and at its proper fronts.
abbrev pub put_held : List (List ℕ) → PathMap → PathMap → PathMap
put_held p h m = insert_under p h (cleared p m)

-- What the source holds as the command begins stands at the target too.
abbrev pub copy : List (List ℕ) → List (List ℕ) → PathMap → PathMap
copy source target m = put_held target (held source m) m

-- What the source holds as the command begins stands at the target; the source is removed first.
abbrev pub rename : List (List ℕ) → List (List ℕ) → PathMap → PathMap
rename source target m = put_held target (held source m) (delete source m)

-- The map has a folder at the path: the root always is one, and else a path goes on.
abbrev pub HasFolder : PathMap → List (List ℕ) → Type 0
HasFolder m [] = Unit {0}
HasFolder m (d ∷ p) = (c : List ℕ) × (q : List (List ℕ)) × (l : Leaf) × (leaf_at ((d ∷ p) ++ c ∷ q) m ≡ Some l)
