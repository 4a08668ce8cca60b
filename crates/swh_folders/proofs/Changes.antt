-- What an edit of an open folder makes of the map of its tree.
use Rattle.std.proofs.Common.{◌≡◌, ◌≢◌, ℕ, ◌≤◌, List, [], ◌∷◌, ◌++◌, length, take, Option, Some, None, refl, sym, ap, subst, ◌∙◌, arith}
use Rattle.std.proofs.lemmas.List.{length-take}
use Rattle.std.specs.Global.{Vec}
use Rattle.std.specs.List.{AllByRecursion}
use Rattle.swh_base.specs.Directory.{IsEntryName}
use Rattle.swh_entries.specs.declared.entry.Leaf.{Leaf}
use Rattle.swh_folders.specs.declared.folders.Folders.{Folders}
use Rattle.swh_folders.specs.declared.opened.Opened.{Opened}
use Rattle.swh_entries.specs.Listed.{Listed}
use Rattle.swh_entries.specs.declared.entry.Entry.{Entry}
use Rattle.swh_forest.specs.Arena.{forest_of, tree_at, AreGood, Grows}
use Rattle.swh_entries.specs.Keys.{texts}
use Rattle.swh_entries.specs.Named.{Extends}
use Rattle.swh_forest.specs.Forest.{Forest, Stands, Nothing, IsFile, IsFolder, child_at, put, folder, forest, found, graft, flat}
use Rattle.swh_folders.specs.Opened.{folder_path, own_forest, open_forest, IsOpened, StandsIn}
use Rattle.swh_forest.specs.PathMap.{PathMap, set, delete}
use Rattle.swh_forest.specs.Roots.{IsBelow, IsGood, root_forest}
use Rattle.swh_forest.specs.Sound.{IsLeaf, IsSound}
use Rattle.swh_folders.specs.Working.{AreFolders, count_of, IsTallied, StaysBelow}
use Rattle.swh_forest.proofs.Arenas.{same-forest, good-more}
use Rattle.swh_folders.proofs.Copies.{good-take, tree-take}
use Rattle.swh_folders.proofs.Closings.{found-here}
use Rattle.swh_forest.proofs.Lookups.{found-append}
use Rattle.swh_folders.proofs.Openings.{stands-own, set-opened, found-opened, delete-opened, delete-absent, last-some}

-- ## Names of a path

pub front-names : (p : List (List ℕ)) (c : List ℕ) → AllByRecursion IsEntryName (p ++ c ∷ []) → AllByRecursion IsEntryName p
front-names [] c h = tt
front-names (d ∷ p) c h = (h.0, front-names p c h.1)

pub last-name : (p : List (List ℕ)) (c : List ℕ) → AllByRecursion IsEntryName (p ++ c ∷ []) → IsEntryName c
last-name [] c h = h.0
last-name (d ∷ p) c h = last-name p c h.1

pub names-with : (p : List (List ℕ)) (c : List ℕ) → AllByRecursion IsEntryName p → IsEntryName c → AllByRecursion IsEntryName (p ++ c ∷ [])
names-with [] c h n = (n, tt)
names-with (d ∷ p) c h n = (h.0, names-with p c h.1 n)

-- ## Edits of the open folder

own_there : (names : List (Vec ℕ)) (nodes nodes' : List Listed) (o : Opened) (f : Forest) → nodes' ≡ nodes → own_forest names nodes' o ≡ f → own_forest names nodes o ≡ f
own_there names nodes nodes' o f same is = sym (ap (λ (k : List Listed). own_forest names k o) same) ∙ is

-- the leaf that was put into the open folder
pub set-in : (mid new : Folders) (o o' : Opened) (m : PathMap) (p : List (List ℕ)) (c : List ℕ) (l : Leaf) → AreFolders mid → Extends mid.names.items new.names.items → new.nodes.items ≡ mid.nodes.items → StandsIn mid.names.items mid.nodes.items o m → p ≡ folder_path o.path ++ c ∷ [] → AllByRecursion IsEntryName p → IsLeaf l → o'.root ≡ o.root → o'.path ≡ o.path → own_forest new.names.items new.nodes.items o' ≡ put c (IsFile l) (own_forest mid.names.items mid.nodes.items o) → flat (open_forest new.names.items new.nodes.items o') ≡ set p l m
set-in mid new o o' m p c l good more same s is plain leaf root path own =
    ap (λ (k : List Listed). flat (open_forest new.names.items k o')) same
    ∙ set-opened mid.names.items new.names.items mid.nodes.items o o' m c l good.arena more s (subst (λ (q : List (List ℕ)). AllByRecursion IsEntryName q) is plain) leaf root path (own_there new.names.items mid.nodes.items new.nodes.items o' _ same own)
    ∙ ap (λ (q : List (List ℕ)). set q l m) (sym is)

-- what was dropped from the open folder
pub delete-in : (mid new : Folders) (o o' : Opened) (m : PathMap) (p : List (List ℕ)) (c : List ℕ) → AreFolders mid → Extends mid.names.items new.names.items → new.nodes.items ≡ mid.nodes.items → StandsIn mid.names.items mid.nodes.items o m → p ≡ folder_path o.path ++ c ∷ [] → AllByRecursion IsEntryName p → child_at c (own_forest mid.names.items mid.nodes.items o) ≢ Nothing → o'.root ≡ o.root → o'.path ≡ o.path → own_forest new.names.items new.nodes.items o' ≡ put c Nothing (own_forest mid.names.items mid.nodes.items o) → flat (open_forest new.names.items new.nodes.items o') ≡ delete p m
delete-in mid new o o' m p c good more same s is plain some root path own =
    let names = mid.names.items in
    let nodes = mid.nodes.items in
    ap (λ (k : List Listed). flat (open_forest new.names.items k o')) same
    ∙ delete-opened names new.names.items nodes o o' m c good.arena more s (subst (λ (q : List (List ℕ)). AllByRecursion IsEntryName q) is plain) (λ e. some (sym (found-opened names nodes o m c s) ∙ e)) root path (own_there new.names.items nodes new.nodes.items o' _ same own)
    ∙ ap (λ (q : List (List ℕ)). delete q m) (sym is)

-- nothing was there to be dropped
pub delete-nothing : (f : Folders) (o : Opened) (c : List ℕ) → AreFolders f → IsOpened f.names.items f.nodes.items o → IsEntryName c → child_at c (own_forest f.names.items f.nodes.items o) ≡ Nothing → flat (open_forest f.names.items f.nodes.items o) ≡ delete (folder_path o.path ++ c ∷ []) (flat (open_forest f.names.items f.nodes.items o))
delete-nothing f o c good h name none =
    let names = f.names.items in
    let nodes = f.nodes.items in
    let s = stands-own names nodes o good h in
    let p = folder_path o.path ++ c ∷ [] in
    let m = flat (open_forest names nodes o) in
    subst (λ (k : PathMap). k ≡ delete p k) s.map (delete-absent p s.whole (last-some (folder_path o.path) c) (names-with (folder_path o.path) c h.path name) s.sound (found-opened names nodes o m c s ∙ none))

-- ## The open folder as it was, after folders came and were dropped again

own-again : (names names' : List (Vec ℕ)) (nodes nodes' : List Listed) (o again : Opened) → AreGood (length names) (length nodes) o.node.items → Grows names nodes names' nodes' → again.node.items ≡ o.node.items → own_forest names' (take (length nodes) nodes') again ≡ own_forest names nodes o
own-again names names' nodes nodes' o again good grows is =
    let n = length nodes in
    ap (forest_of (texts names') (tree_at names' (take n nodes'))) is
    ∙ sym (same-forest (texts names) (texts names') (tree_at names nodes) (tree_at names' (take n nodes')) (length names) n o.node.items good
    (λ i lt. sym (grows.names_more.same_names i lt)) (λ j lt. sym (tree-take names' nodes' n j grows.longer lt ∙ grows.trees j lt)))

root-again : (names names' : List (Vec ℕ)) (nodes nodes' : List Listed) (r : Option ℕ) → IsBelow (length nodes) r → Grows names nodes names' nodes' → root_forest (tree_at names' (take (length nodes) nodes')) r ≡ root_forest (tree_at names nodes) r
root-again names names' nodes nodes' None low grows = refl
root-again names names' nodes nodes' (Some k) low grows = tree-take names' nodes' (length nodes) k grows.longer low ∙ grows.trees k low

below-again : (n m : ℕ) (r : Option ℕ) → n ≤ m → IsBelow n r → IsBelow m r
below-again n m None le low = tt
below-again n m (Some k) le low = omega arith

-- It is the open folder of before, with the same entries, root and path.
pub record IsAgain (o again : Opened) : Type 0 where
  pub root : again.root ≡ o.root
  pub path : folder_path again.path ≡ folder_path o.path
  pub node : again.node.items ≡ o.node.items

pub open-again : (names names' : List (Vec ℕ)) (nodes nodes' : List Listed) (o again : Opened) → IsOpened names nodes o → Grows names nodes names' nodes' → IsAgain o again → open_forest names' (take (length nodes) nodes') again ≡ open_forest names nodes o
open-again names names' nodes nodes' o again h grows is =
    let kept = take (length nodes) nodes' in
    ap (λ (f : Forest). forest (graft (folder_path again.path) (folder f) (IsFolder (root_forest (tree_at names' kept) again.root)))) (own-again names names' nodes nodes' o again h.entries grows is.node)
    ∙ ap (λ (p : List (List ℕ)). forest (graft p (folder (own_forest names nodes o)) (IsFolder (root_forest (tree_at names' kept) again.root)))) is.path
    ∙ ap (λ (r : Option ℕ). forest (graft (folder_path o.path) (folder (own_forest names nodes o)) (IsFolder (root_forest (tree_at names' kept) r)))) is.root
    ∙ ap (λ (g : Forest). forest (graft (folder_path o.path) (folder (own_forest names nodes o)) (IsFolder g))) (root-again names names' nodes nodes' o.root h.root grows)

pub opened-again : (names names' : List (Vec ℕ)) (nodes nodes' : List Listed) (o again : Opened) → IsOpened names nodes o → Grows names nodes names' nodes' → IsAgain o again → IsOpened names' (take (length nodes) nodes') again
opened-again names names' nodes nodes' o again h grows is =
    let n = length nodes in
    let long : n ≤ length (take n nodes') = let le = grows.longer in simp length-take (omega arith) in
    record {
      root = subst (λ (r : Option ℕ). IsBelow (length (take n nodes')) r) (sym is.root) (below-again n (length (take n nodes')) o.root long h.root);
      path = subst (λ (p : List (List ℕ)). AllByRecursion IsEntryName p) (sym is.path) h.path;
      entries = subst (λ (es : List Entry). AreGood (length names') (length (take n nodes')) es) (sym is.node) (good-more (length names) n (length names') (length (take n nodes')) o.node.items grows.names_more.longer long h.entries);
      sound = subst IsSound (sym (own-again names names' nodes nodes' o again h.entries grows is.node)) h.sound;
    }

pub stays-again : (base : ℕ) (old new : Folders) (names : List (Vec ℕ)) (nodes : List Listed) → IsTallied base old → IsGood names nodes → Grows old.names.items old.nodes.items names nodes → new.names.items ≡ names → new.nodes.items ≡ take (count_of old) nodes → StaysBelow base old new
stays-again base old new names nodes t good grows en ek =
    let from = t.from in
    let up = t.up_to in
    record {
      good = rw (en, ek) (good-take names nodes (count_of old) grows.longer good);
      long = let more = grows.longer in rw ek (simp length-take (omega arith));
      stay = λ j lt. rw (en, ek) (tree-take names nodes (count_of old) j grows.longer (omega arith) ∙ grows.trees j (omega arith));
    }

-- ## A folder that was taken from a root

-- what stands at the path of a name of the folder
pub stands-there : (names : List (Vec ℕ)) (nodes : List Listed) (o : Opened) (root : Option ℕ) (p : List (List ℕ)) (c : List ℕ) (y : Stands) → p ≡ folder_path o.path ++ c ∷ [] → forest y ≡ root_forest (tree_at names nodes) root → own_forest names nodes o ≡ forest (found (folder_path o.path) (IsFolder (root_forest (tree_at names nodes) root))) → found p y ≡ child_at c (own_forest names nodes o)
stands-there names nodes o root p c y is same own =
    let q = folder_path o.path in
    ap (λ (r : List (List ℕ)). found r y) is ∙ found-append q (c ∷ []) y ∙ ap (child_at c) (found-here q y (root_forest (tree_at names nodes) root) same ∙ sym own)
