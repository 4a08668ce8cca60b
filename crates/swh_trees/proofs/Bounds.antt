-- How much stands in memory, as callers see it.
use Rattle.std.proofs.Common.{◌≡◌, ℕ, ◌+◌, ◌≤◌, List, length, take, drop, Option, None, sym, ap, subst, ◌∙◌, inl, inr, arith}
use Rattle.std.proofs.lemmas.List.{drop_all, length-take}
use Rattle.swh_entries.specs.Listed.{Listed, cost_of}
use Rattle.swh_folders.specs.declared.folders.Folders.{Folders}
use Rattle.swh_folders.specs.declared.opened.Opened.{Opened}
use Rattle.swh_folders.specs.declared.opened.Start.{Start}
use Rattle.swh_folders.specs.declared.opened.Start.TheVariants.{At, In}
use Rattle.swh_forest.specs.Forest.{flat}
use Rattle.swh_folders.specs.Opened.{root_of_start, IsStart, StaysBounded}
use Rattle.swh_forest.specs.PathMap.{PathMap}
use Rattle.swh_forest.specs.Roots.{IsBelow, root_forest}
use Rattle.swh_folders.specs.Working.{AreFolders, count_of, cost_from, folder_at, root_map, spare, KeepsCounts, AreNeeded, IsSetAnew, IsBounded as AreBounded}
use Rattle.swh_trees.specs.declared.tree.Tree.{Tree}
use Rattle.swh_trees.specs.Bound.{IsStill, IsCleared, IsBounded, IsEmptied}
use Rattle.swh_trees.specs.Grove.{Grove, map_of}
use Rattle.swh_trees.specs.Held.{grove}
use Rattle.swh_trees.specs.Makes.{IsFolderOf}
use Rattle.swh_trees.proofs.Counts.{costs-seen}
use Rattle.swh_trees.proofs.Parts.{grove-at, grove-long, map_is, root_is, root-good, folder_of}

cleared : (f : Folders) (o : Option Opened) (ids : List (List ℕ)) (root : Option ℕ) (m : PathMap) → AreFolders f → IsBelow (count_of f) root → AreNeeded (length ids) f root → IsSetAnew (length ids) f → root_map f root ≡ m → IsCleared (grove f o ids) m
cleared f o ids root m good low needed anew is = record {
  needed = λ n le lt. subst (λ (x : PathMap). IsFolderOf m x) (sym (grove-at f o ids n lt))
      (subst (λ (x : PathMap). IsFolderOf x (flat (folder_at f n))) (sym (root_is f root) ∙ is) (folder_of (root_forest (folder_at f) root) (folder_at f n) (root-good f root good low) (needed n le lt)));
  entries = costs-seen f o ids good anew.whole;
  most = anew.folders;
  room = anew.entries;
}

still : (a b : Folders) (o o' : Option Opened) (ids : List (List ℕ)) → b.nodes.items ≡ a.nodes.items → KeepsCounts a b → IsStill (grove a o ids) (grove b o' ids)
still a b o o' ids same k = record {
  standing = ap length same;
  entries = ap (λ (l : List Listed). cost_of (drop (length ids) l)) same;
  most = k.most;
  room = k.room;
}

bounded : (a b : Folders) (o o' : Option Opened) (ids : List (List ℕ)) (root : Option ℕ) (m : PathMap) → AreFolders b → IsBelow (count_of b) root → AreBounded (length ids) a b root → root_map b root ≡ m → IsBounded (grove a o ids) (grove b o' ids) m
bounded a b o o' ids root m good low (inl h) is = inr (inl (record { folders = h.0.folders; entries = h.0.entries; most = h.2; room = h.1 }))
bounded a b o o' ids root m good low (inr h) is = inr (inr (cleared b o' ids root m good low h.0 h.1 is))

stays : (a b : Folders) (o o' : Option Opened) (ids : List (List ℕ)) (root : Option ℕ) (m : PathMap) → AreFolders b → IsBelow (count_of b) root → StaysBounded (length ids) a b root m → IsBounded (grove a o ids) (grove b o' ids) m
stays a b o o' ids root m good low (inl h) = inl (still a b o o' ids h.0 h.1)
stays a b o o' ids root m good low (inr h) = bounded a b o o' ids root m good low h.0 h.1

pub start-root : (f : Folders) (s : Start) → IsStart f s → IsBelow (count_of f) (root_of_start s)
start-root f (At root) h = h
start-root f (In o) h = h.root

pub still-seen : (v : Grove) (a b : Folders) (o o' : Option Opened) (ids : List (List ℕ)) → grove a o ids ≡ v → b.nodes.items ≡ a.nodes.items → KeepsCounts a b → IsStill v (grove b o' ids)
still-seen v a b o o' ids seen same k = subst (λ (w : Grove). IsStill w (grove b o' ids)) seen (still a b o o' ids same k)

pub stays-seen : (v : Grove) (a b : Folders) (o o' : Option Opened) (ids : List (List ℕ)) (base : ℕ) (root : Option ℕ) (m m' : PathMap) → grove a o ids ≡ v → base ≡ length ids → AreFolders b → IsBelow (count_of b) root → StaysBounded base a b root m → m ≡ m' → IsBounded v (grove b o' ids) m'
stays-seen v a b o o' ids base root m m' seen is good low h same =
    subst (λ (w : Grove). IsBounded w (grove b o' ids) m') seen
    (subst (λ (x : PathMap). IsBounded (grove a o ids) (grove b o' ids) x) same
    (stays a b o o' ids root m good low (subst (λ (k : ℕ). StaysBounded k a b root m) is h)))

-- of a tree that has a folder's number
pub bounded-seen : (v : Grove) (a b : Folders) (o : Option Opened) (ids : List (List ℕ)) (base : ℕ) (tree : Tree) → grove a o ids ≡ v → base ≡ length ids → AreFolders b → IsBelow (count_of b) tree.number → AreBounded base a b tree.number → IsBounded v (grove b None ids) (map_of (grove b None ids) tree)
bounded-seen v a b o ids base tree seen is good low h =
    subst (λ (w : Grove). IsBounded w (grove b None ids) (map_of (grove b None ids) tree)) seen
    (bounded a b o None ids tree.number (map_of (grove b None ids) tree) good low (subst (λ (k : ℕ). AreBounded k a b tree.number) is h) (sym (map_is b None ids tree.number low)))

pub cut-long : (made : ℕ) (nodes : List Listed) → made ≤ length nodes → length (take made nodes) ≡ made
cut-long made nodes le = simp length-take (omega arith)

pub none-cost : (made : ℕ) (f : Folders) → count_of f ≡ made → cost_from made f ≡ 0
none-cost made f is = ap cost_of (drop_all made f.nodes.items (omega arith))

-- after all objects were made
pub emptied : (f : Folders) (ids : List (List ℕ)) → length ids ≡ count_of f → f.most ≤ count_of f + spare → f.room ≤ spare → IsEmptied (grove f None ids)
emptied f ids all most room = record {
  standing = sym all;
  closed = grove-long f None ids ∙ sym all;
  entries = ap cost_of (drop_all (length ids) f.nodes.items (omega arith));
  most = omega arith;
  room = room;
}
