-- How many entries stand, where each list costs as much as it has entries.
use Rattle.std.proofs.Common.{◌≡◌, ℕ, suc, ◌+◌, ◌-◌, ◌<◌, List, [], ◌∷◌, length, drop, get_or, Option, refl, sym, ap, ◌∙◌, arith}
use Rattle.std.proofs.lemmas.List.{length-drop, get_or-drop, get_or_default}
use Rattle.std.proofs.lemmas.List.Sums.{sum_by-cons}
use Rattle.swh_base.specs.Directory.{DirectoryEntry}
use Rattle.swh_entries.specs.declared.entry.Child.{Child}
use Rattle.swh_entries.specs.declared.entry.Child.TheVariants.{File as FileChild, Folder as FolderChild}
use Rattle.swh_entries.specs.declared.entry.Entry.{Entry}
use Rattle.swh_entries.specs.Keys.{name_at, texts}
use Rattle.swh_entries.specs.Listed.{Listed, cost_of}
use Rattle.swh_folders.specs.declared.folders.Folders.{Folders}
use Rattle.swh_folders.specs.declared.opened.Opened.{Opened}
use Rattle.swh_forest.specs.Arena.{stands, forest_of, tree_at}
use Rattle.swh_forest.specs.Forest.{Forest, beside, flat}
use Rattle.swh_folders.specs.Live.{AreWhole}
use Rattle.swh_forest.specs.PathMap.{PathMap}
use Rattle.swh_folders.specs.Working.{AreFolders, count_of, cost_from, folder_at}
use Rattle.swh_forest.proofs.Arenas.{tree-node}
use Rattle.swh_trees.specs.Bound.{entry_count, entries_from}
use Rattle.swh_trees.specs.Directory.{depth_of}
use Rattle.swh_trees.specs.Grove.{folder_map}
use Rattle.swh_trees.specs.Held.{grove}
use Rattle.swh_trees.specs.Listing.{directory}
use Rattle.swh_trees.proofs.Directories.{directory-is, within-depth}
use Rattle.swh_trees.proofs.Parts.{grove-at}

beside-count : (id : List DirectoryEntry → List ℕ) (n : List ℕ) (at : ℕ → Forest) (c : Child) (f : Forest) → length (directory id (beside n (stands at c) f)) ≡ suc (length (directory id f))
beside-count id n at (FileChild l) f = refl
beside-count id n at (FolderChild j) f = refl

forest-count : (id : List DirectoryEntry → List ℕ) (names : List (List ℕ)) (at : ℕ → Forest) (es : List Entry) → length (directory id (forest_of names at es)) ≡ length es
forest-count id names at [] = refl
forest-count id names at (e ∷ es) = beside-count id (name_at names e.name) at e.child (forest_of names at es) ∙ ap suc (forest-count id names at es)

folder-count : (f : Folders) (i : ℕ) (v : Listed) → AreFolders f → i < count_of f → v ≡ get_or f.nodes.items i v → entry_count (flat (folder_at f i)) ≡ length v.items
folder-count f i v good lt is =
    let g = folder_at f i in
    let sound = good.sound i lt in
    ap length (directory-is (λ es. []) (depth_of (flat g)) g sound (within-depth g sound))
    ∙ ap (λ (x : Forest). length (directory (λ es. []) x)) (tree-node f.names.items f.nodes.items i v good.arena lt is)
    ∙ forest-count (λ es. []) (texts f.names.items) (tree_at f.names.items f.nodes.items) v.items

costs-from : (map_at : ℕ → PathMap) (lists : List Listed) (first : ℕ) → ((i : ℕ) (d : Listed) → i < length lists → (get_or lists i d).cost ≡ entry_count (map_at (first + i))) → cost_of lists ≡ entries_from map_at first (length lists)
costs-from map_at [] first each = refl
costs-from map_at (l ∷ lists) first each =
    let zero_more : first + 0 ≡ first = omega arith in
    let here : l.cost ≡ entry_count (map_at first) = each 0 l (omega arith) ∙ ap (λ (k : ℕ). entry_count (map_at k)) zero_more in
    let rest = costs-from map_at lists (suc first) (λ i d lt. let more : first + suc i ≡ suc first + i = omega arith in each (suc i) d (omega arith) ∙ ap (λ (k : ℕ). entry_count (map_at k)) more) in
    sum_by-cons (λ (x : Listed). x.cost) l lists ∙ ap (λ (k : ℕ). k + cost_of lists) here ∙ ap (λ (k : ℕ). entry_count (map_at first) + k) rest

-- the lists from the base on, seen by the maps of their folders
pub costs-seen : (f : Folders) (o : Option Opened) (ids : List (List ℕ)) → AreFolders f → AreWhole (drop (length ids) f.nodes.items) → cost_from (length ids) f ≡ entries_from (folder_map (grove f o ids)) (length ids) (count_of f - length ids)
costs-seen f o ids good whole =
    let base = length ids in
    let nodes = f.nodes.items in
    let long : length (drop base nodes) ≡ length nodes - base = length-drop base nodes in
    costs-from (folder_map (grove f o ids)) (drop base nodes) base each ∙ ap (entries_from (folder_map (grove f o ids)) base) long
  where
    each : (i : ℕ) (d : Listed) → i < length (drop (length ids) f.nodes.items) → (get_or (drop (length ids) f.nodes.items) i d).cost ≡ entry_count (folder_map (grove f o ids) (length ids + i))
    each i d lt =
        let base = length ids in
        let nodes = f.nodes.items in
        let long = length-drop base nodes in
        let within : base + i < length nodes = omega (arith, long) in
        let v = get_or nodes (base + i) d in
        let own : v ≡ get_or nodes (base + i) v = get_or_default nodes (base + i) d v within in
        whole i d lt
        ∙ ap (λ (l : Listed). length l.items) (get_or-drop base nodes i d)
        ∙ sym (folder-count f (base + i) v good within own)
        ∙ ap entry_count (sym (grove-at f o ids (base + i) within))
