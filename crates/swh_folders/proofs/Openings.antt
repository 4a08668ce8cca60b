-- A folder that is open, and the tree that it stands in.
use Rattle.std.proofs.Common.{◌≡◌, ◌≢◌, ℕ, List, [], ◌∷◌, ◌++◌, length, Option, Some, None, refl, sym, ap, ◌∙◌}
use Rattle.std.specs.Global.{Vec}
use Rattle.std.specs.List.{AllByRecursion}
use Rattle.swh_base.specs.Directory.{IsEntryName}
use Rattle.swh_entries.specs.declared.entry.Leaf.{Leaf}
use Rattle.swh_folders.specs.declared.opened.Opened.{Opened}
use Rattle.swh_entries.specs.Listed.{Listed}
use Rattle.swh_forest.specs.Arena.{tree_at, IsArena}
use Rattle.swh_entries.specs.Named.{Extends}
use Rattle.swh_forest.specs.Forest.{Forest, Stands, Nothing, IsFile, IsFolder, child_at, put, folder, forest, found, graft, deleted, flat}
use Rattle.swh_folders.specs.Opened.{folder_path, own_forest, root_with, open_forest, IsOpened, StandsIn}
use Rattle.swh_forest.specs.PathMap.{PathMap, set, delete}
use Rattle.swh_forest.specs.Roots.{IsBelow, map_of_number, IsGood, map_at, root_forest}
use Rattle.swh_forest.specs.Sound.{IsLeaf, IsSound, IsSoundHere}
use Rattle.swh_forest.proofs.Arenas.{tree-names}
use Rattle.swh_forest.proofs.Canonical.{delete-here}
use Rattle.swh_forest.proofs.EditedRoots.{root_flat, root_sound, deleted_one}
use Rattle.swh_forest.proofs.Grafts.{forest-folder}
use Rattle.swh_forest.proofs.Lookups.{found-append}
use Rattle.swh_folders.proofs.Overwrites.{graft-last, found-graft, found-same, change-there}
use Rattle.swh_forest.proofs.Puts.{set-here}
use Rattle.swh_forest.proofs.Sounds.{forest-sound, folder-sound, into-sound}

pub graft-sound : (p : List (List ℕ)) (x y : Stands) → AllByRecursion IsEntryName p → IsSoundHere x → IsSound (forest y) → IsSound (forest (graft p x y))
graft-sound [] x y plain hx s = forest-sound x hx
graft-sound (c ∷ p) x y plain hx s = forest-sound (graft (c ∷ p) x y) (into-sound c p x y plain hx s)

pub root-names : (names names' : List (Vec ℕ)) (nodes : List Listed) (r : Option ℕ) → IsArena names nodes → Extends names names' → root_forest (tree_at names' nodes) r ≡ root_forest (tree_at names nodes) r
root-names names names' nodes None arena more = refl
root-names names names' nodes (Some n) arena more = tree-names names names' nodes arena more n

pub open-sound : (names : List (Vec ℕ)) (nodes : List Listed) (o : Opened) → IsGood names nodes → IsOpened names nodes o → IsSound (open_forest names nodes o)
open-sound names nodes o good h = graft-sound (folder_path o.path) (folder (own_forest names nodes o)) (IsFolder (root_forest (tree_at names nodes) o.root)) h.path (folder-sound (own_forest names nodes o) h.sound) (root_sound names nodes o.root good.sound h.root)

-- the folder that is open already
pub stands-own : (names : List (Vec ℕ)) (nodes : List Listed) (o : Opened) → IsGood names nodes → IsOpened names nodes o → StandsIn names nodes o (flat (open_forest names nodes o))
stands-own names nodes o good h =
    let p = folder_path o.path in
    let f = own_forest names nodes o in
    let y : Stands = IsFolder (root_forest (tree_at names nodes) o.root) in
    record {
      whole = open_forest names nodes o;
      sound = open-sound names nodes o good h;
      map = refl;
      here = found-same p (graft p (folder f) y) ∙ ap forest (found-graft p (folder f) y) ∙ forest-folder f;
      change = λ c x. change-there p c x f y;
    }

-- the folder that was taken from a root
pub stands-taken : (names : List (Vec ℕ)) (nodes : List Listed) (o : Opened) (root : Option ℕ) (m : PathMap) → IsGood names nodes → IsBelow (length nodes) root → o.root ≡ root → own_forest names nodes o ≡ forest (found (folder_path o.path) (IsFolder (root_forest (tree_at names nodes) root))) → map_of_number (map_at names nodes) root ≡ m → StandsIn names nodes o m
stands-taken names nodes o root m good low is own map =
    let p = folder_path o.path in
    let y : Stands = IsFolder (root_forest (tree_at names nodes) root) in
    record {
      whole = root_forest (tree_at names nodes) root;
      sound = root_sound names nodes root good.sound low;
      map = sym (root_flat names nodes root) ∙ map;
      here = sym own;
      change = λ c x.
          ap (λ (r : Option ℕ). graft p (folder (put c x (own_forest names nodes o))) (IsFolder (root_forest (tree_at names nodes) r))) is
          ∙ ap (λ (g : Forest). graft p (folder (put c x g)) y) own
          ∙ sym (graft-last p c x y);
    }

-- what the tree of an open folder is after an edit of it
pub edited-root : (names names' : List (Vec ℕ)) (nodes : List Listed) (o o' : Opened) (m : PathMap) (c : List ℕ) (x : Stands) → IsArena names nodes → Extends names names' → (s : StandsIn names nodes o m) → o'.root ≡ o.root → o'.path ≡ o.path → own_forest names' nodes o' ≡ put c x (own_forest names nodes o) → open_forest names' nodes o' ≡ forest (graft (folder_path o.path ++ c ∷ []) x (IsFolder s.whole))
edited-root names names' nodes o o' m c x arena more s root path own =
    ap (λ (f : Forest). forest (root_with names' nodes o' f)) own
    ∙ ap (λ (p : Option (Vec ℕ)). forest (graft (folder_path p) (folder (put c x (own_forest names nodes o))) (IsFolder (root_forest (tree_at names' nodes) o'.root)))) path
    ∙ ap (λ (r : Option ℕ). forest (graft (folder_path o.path) (folder (put c x (own_forest names nodes o))) (IsFolder (root_forest (tree_at names' nodes) r)))) root
    ∙ ap (λ (g : Forest). forest (graft (folder_path o.path) (folder (put c x (own_forest names nodes o))) (IsFolder g))) (root-names names names' nodes o.root arena more)
    ∙ ap forest (s.change c x)

pub last-some : (p : List (List ℕ)) (c : List ℕ) → p ++ c ∷ [] ≢ []
last-some [] c e = cc
last-some (d ∷ p) c e = cc

pub set-opened : (names names' : List (Vec ℕ)) (nodes : List Listed) (o o' : Opened) (m : PathMap) (c : List ℕ) (l : Leaf) → IsArena names nodes → Extends names names' → StandsIn names nodes o m → AllByRecursion IsEntryName (folder_path o.path ++ c ∷ []) → IsLeaf l → o'.root ≡ o.root → o'.path ≡ o.path → own_forest names' nodes o' ≡ put c (IsFile l) (own_forest names nodes o) → flat (open_forest names' nodes o') ≡ set (folder_path o.path ++ c ∷ []) l m
set-opened names names' nodes o o' m c l arena more s plain leaf root path own =
    let p = folder_path o.path ++ c ∷ [] in
    ap flat (edited-root names names' nodes o o' m c (IsFile l) arena more s root path own)
    ∙ set-here p l (IsFolder s.whole) (last-some (folder_path o.path) c) plain leaf s.sound ∙ ap (set p l) s.map

-- what stands at the name of the open folder
pub found-opened : (names : List (Vec ℕ)) (nodes : List Listed) (o : Opened) (m : PathMap) (c : List ℕ) → (s : StandsIn names nodes o m) → found (folder_path o.path ++ c ∷ []) (IsFolder s.whole) ≡ child_at c (own_forest names nodes o)
found-opened names nodes o m c s = found-append (folder_path o.path) (c ∷ []) (IsFolder s.whole) ∙ ap (child_at c) s.here

pub delete-opened : (names names' : List (Vec ℕ)) (nodes : List Listed) (o o' : Opened) (m : PathMap) (c : List ℕ) → IsArena names nodes → Extends names names' → (s : StandsIn names nodes o m) → AllByRecursion IsEntryName (folder_path o.path ++ c ∷ []) → found (folder_path o.path ++ c ∷ []) (IsFolder s.whole) ≢ Nothing → o'.root ≡ o.root → o'.path ≡ o.path → own_forest names' nodes o' ≡ put c Nothing (own_forest names nodes o) → flat (open_forest names' nodes o') ≡ delete (folder_path o.path ++ c ∷ []) m
delete-opened names names' nodes o o' m c arena more s plain some root path own =
    let p = folder_path o.path ++ c ∷ [] in
    ap flat (edited-root names names' nodes o o' m c Nothing arena more s root path own)
    ∙ ap (λ (x : Stands). flat (forest x)) (sym (deleted_one p (IsFolder s.whole) (found p (IsFolder s.whole)) refl some))
    ∙ delete-here p (IsFolder s.whole) (last-some (folder_path o.path) c) plain s.sound ∙ ap (delete p) s.map

pub delete-absent : (p : List (List ℕ)) (f : Forest) → p ≢ [] → AllByRecursion IsEntryName p → IsSound f → found p (IsFolder f) ≡ Nothing → flat f ≡ delete p (flat f)
delete-absent p f ne plain s none =
    let stays : deleted p (IsFolder f) ≡ IsFolder f = rw none refl in
    ap (λ (x : Stands). flat (forest x)) (sym stays) ∙ delete-here p (IsFolder f) ne plain s
