-- The folders of a map are those of its root's folder, and each has a number.
use Rattle.std.proofs.Common.{rules, tests, ◌≡◌, ◌≢◌, ℕ, zero, suc, ◌+◌, ◌<◌, ◌≤◌, Bool, true, false, cond, List, [], ◌∷◌, ◌++◌, length, get_or, Option, Some, None, refl, sym, ap, subst, ◌∙◌, inl, inr, arith, ◌==◌}
use Rattle.std.proofs.Math.Seq.{get_or-append_seam}
use Rattle.std.proofs.lemmas.Bool.{cases_lt}
use Rattle.std.proofs.lemmas.List.{get_or_default, get_or_append_left, length-append}
use Rattle.std.specs.Prelude.{OnErr, Result, Ok, Err}
use Rattle.swh_base.specs.declared.entry.Entry.{Entry as Object}
use Rattle.swh_base.specs.declared.kind.Kind.{Kind}
use Rattle.swh_base.specs.Directory.{DirectoryEntry, directory_text}
use Rattle.swh_entries.specs.declared.entry.Leaf.{Leaf}
use Rattle.swh_entries.specs.declared.entry.Entry.{Entry}
use Rattle.swh_entries.specs.Listed.{Listed}
use Rattle.swh_entries.specs.declared.entry.Child.{Child}
use Rattle.swh_entries.specs.declared.entry.Child.TheVariants.{File as FileChild, Folder as FolderChild}
use Rattle.swh_trees.specs.declared.fault.TreeFault.{TreeFault}
use Rattle.swh_trees.specs.declared.fault.TreeFault.TheVariants.{Memory, TooLong}
use Rattle.swh_folders.specs.declared.folders.Folders.{Folders}
use Rattle.swh_trees.specs.declared.tree.Tree.{Tree}
use Rattle.swh_forest.specs.Arena.{stands, forest_of, tree_at, AreGood, IsLower}
use Rattle.swh_entries.specs.Keys.{name_at, texts}
use Rattle.swh_trees.specs.Directory.{directory_id, directory_of}
use Rattle.swh_forest.specs.Forest.{Forest, Stands, Nothing, IsFile, IsFolder, beside, child_at, forest, found, leaf_of, at, flat, shown}
use Rattle.swh_trees.specs.Listing.{directory}
use Rattle.swh_trees.specs.Grove.{Grove, StandsFor, Keeps, IsTree, folder_map, map_of}
use Rattle.swh_forest.specs.Roots.{IsBelow, map_of_number, map_at, root_forest}
use Rattle.swh_folders.specs.declared.opened.Opened.{Opened}
use Rattle.swh_folders.specs.declared.opened.Start.{Start}
use Rattle.swh_folders.specs.declared.opened.Start.TheVariants.{At, In}
use Rattle.swh_folders.specs.Opened.{open_forest, start_map, number_of_start, IsOpened, IsStart}
use Rattle.swh_trees.specs.Held.{AreIds, IsEmptyFolder, MayBeOpened, first_values, count_with, grove, start_with, opened_of, kept_number}
use Rattle.swh_folders.specs.Live.{IsPart}
use Rattle.swh_trees.specs.Makes.{IsFolderOf, IsNumbered, Makes, ExplainsTree}
use Rattle.swh_trees.specs.Objects.{IsDirectoryObject, AreDirectoryObjects, ExplainsPart}
use Rattle.swh_forest.specs.PathMap.{PathMap, same, leaf_at, held, HasFolder}
use Rattle.swh_forest.specs.Sound.{IsSound, IsSoundHere}
use Rattle.swh_folders.specs.Working.{AreFolders, count_of, folder_at, root_map, StaysBelow}
use Rattle.swh_forest.proofs.Arenas.{tree-node, entries-low}
use Rattle.swh_forest.proofs.Canonical.{own-leaf}
use Rattle.swh_forest.proofs.Flats.{HavePaths, paths-flat, flat-some}
use Rattle.swh_trees.proofs.Directories.{directory-of}
use Rattle.swh_folders.proofs.Lives.{part-sound}
use Rattle.swh_forest.proofs.Lookups.{found-append, found-nothing, found-file, map-at}
use Rattle.swh_forest.proofs.Puts.{held-root}
use Rattle.swh_forest.proofs.Sounds.{found-sound, child-sound}

-- ## Folders of a folder and of its map

some-path : (m : PathMap) → m ≢ [] → HavePaths m → (c : List ℕ) × (r : List (List ℕ)) × (l : Leaf) × (leaf_at (c ∷ r) m ≡ Some l)
some-path [] ne h = absurd (ne refl)
some-path (([], l) ∷ m) ne h = absurd (h.0 refl)
some-path ((c ∷ r, l) ∷ m) ne h = (c, r, l, own-leaf (c ∷ r, l) m)

pub part-has : (p : List (List ℕ)) (f g : Forest) → IsSound f → found p (IsFolder f) ≡ IsFolder g → HasFolder (flat f) p × (held p (flat f) ≡ flat g)
part-has [] f g s e = (tt, ap (λ (x : Stands). flat (forest x)) e)
part-has (d ∷ q) f g s e =
    let good : IsSoundHere (IsFolder g) = subst IsSoundHere e (found-sound q (child_at d f) (child-sound d f s)) in
    let some = some-path (flat g) (flat-some g good.0 good.1) (paths-flat g) in
    let own : leaf_at (some.0 ∷ some.1) (flat g) ≡ Some some.2 = some.3 in
    let leaf = map-at ((d ∷ q) ++ some.0 ∷ some.1) f s ∙ ap leaf_of (found-append (d ∷ q) (some.0 ∷ some.1) (IsFolder f)) ∙ ap (λ (x : Stands). leaf_of (found (some.0 ∷ some.1) x)) e ∙ sym (map-at (some.0 ∷ some.1) g good.1) ∙ own in
    ((some.0, some.1, some.2, leaf), held-root (d ∷ q) (IsFolder f) (λ z. cc) s ∙ ap shown e)

folder_case : (x : Stands) (c : List ℕ) (r : List (List ℕ)) (l : Leaf) → leaf_of (found (c ∷ r) x) ≡ Some l → (g : Forest) × (x ≡ IsFolder g)
folder_case Nothing c r l e = let none = ap leaf_of (found-nothing (c ∷ r)) in absurd cc
folder_case (IsFile k) c r l e = let none = ap leaf_of (found-file c r k) in absurd cc
folder_case (IsFolder g) c r l e = (g, refl)

pub has-part : (p : List (List ℕ)) (f : Forest) → IsSound f → HasFolder (flat f) p → (g : Forest) × (found p (IsFolder f) ≡ IsFolder g)
has-part [] f s h = (f, refl)
has-part (d ∷ q) f s h = folder_case (found (d ∷ q) (IsFolder f)) h.0 h.1 h.2 (ap leaf_of (sym (found-append (d ∷ q) (h.0 ∷ h.1) (IsFolder f))) ∙ sym (map-at ((d ∷ q) ++ h.0 ∷ h.1) f s) ∙ h.3)

-- ## Their numbers

folder-is : (f g : Forest) → IsFolder f ≡ IsFolder g → f ≡ g
folder-is f g e = cc

child_number : (b : Bool) (y x : Stands) (k : ℕ) (at : ℕ → Forest) (g : Forest) → cond b y x ≡ IsFolder g → (y ≡ IsFolder g → (j : ℕ) × (j < k) × (at j ≡ g)) → (x ≡ IsFolder g → (j : ℕ) × (j < k) × (at j ≡ g)) → (j : ℕ) × (j < k) × (at j ≡ g)
child_number true y x k at g e h h' = h e
child_number false y x k at g e h h' = h' e

entry_case : (at : ℕ → Forest) (k : ℕ) (m : List ℕ) (child : Child) (f : Forest) (c : List ℕ) (g : Forest) → IsLower k child → child_at c (beside m (stands at child) f) ≡ IsFolder g → (child_at c f ≡ IsFolder g → (j : ℕ) × (j < k) × (at j ≡ g)) → (j : ℕ) × (j < k) × (at j ≡ g)
entry_case at k m (FileChild l) f c g low e rest = child_number (same m c) (IsFile l) (child_at c f) k at g e (λ z. absurd cc) rest
entry_case at k m (FolderChild j) f c g low e rest = child_number (same m c) (IsFolder (at j)) (child_at c f) k at g e (λ z. (j, low, folder-is (at j) g z)) rest

entry-number : (names : List (List ℕ)) (at : ℕ → Forest) (n k : ℕ) (es : List Entry) (c : List ℕ) (g : Forest) → AreGood n k es → child_at c (forest_of names at es) ≡ IsFolder g → (j : ℕ) × (j < k) × (at j ≡ g)
entry-number names at n k [] c g good e = absurd cc
entry-number names at n k (x ∷ es) c g good e = entry_case at k (name_at names x.name) x.child (forest_of names at es) c g good.0.child e (entry-number names at n k es c g good.1)

-- a folder in a folder has a lower number
child-below : (f : Folders) → AreFolders f → (i : ℕ) → i < count_of f → (d : Listed) → (c : List ℕ) (g : Forest) → child_at c (folder_at f i) ≡ IsFolder g → (j : ℕ) × (j < i) × (folder_at f j ≡ g)
child-below f good i lt d c g e =
    let names = f.names.items in
    let nodes = f.nodes.items in
    let v : Listed = get_or nodes i d in
    let is : v ≡ get_or nodes i v = get_or_default nodes i d v lt in
    let low = entries-low names nodes i v good.arena lt is in
    let node = tree-node names nodes i v good.arena lt is in
    entry-number (texts names) (tree_at names nodes) (length names) i v.items c g low (sym (ap (child_at c) node) ∙ e)

folder_child : (x : Stands) (p : List (List ℕ)) (g : Forest) → found p x ≡ IsFolder g → (h : Forest) × (x ≡ IsFolder h)
folder_child Nothing p g e = let none = found-nothing p in absurd cc
folder_child (IsFile l) [] g e = absurd cc
folder_child (IsFile l) (c ∷ p) g e = let none = found-file c p l in absurd cc
folder_child (IsFolder h) p g e = (h, refl)

-- each folder of a folder has a number
number-of : (f : Folders) → AreFolders f → (d : Listed) (p : List (List ℕ)) (i : ℕ) → i < count_of f → (g : Forest) → found p (IsFolder (folder_at f i)) ≡ IsFolder g → (n : ℕ) × (n ≤ i) × (folder_at f n ≡ g)
number-of f good d [] i lt g e = (i, omega arith, folder-is (folder_at f i) g e)
number-of f good d (c ∷ p) i lt g e =
    let child = folder_child (child_at c (folder_at f i)) p g e in
    let below = child-below f good i lt d c child.0 child.1 in
    let low : below.0 < i = below.1 in
    let there : found p (IsFolder (folder_at f below.0)) ≡ IsFolder g = ap (λ (h : Forest). found p (IsFolder h)) below.2 ∙ ap (found p) (sym child.1) ∙ e in
    let deep = number-of f good d p below.0 (omega arith) g there in
    let le : deep.0 ≤ below.0 = deep.1 in
    (deep.0, omega arith, deep.2)

first_node : (nodes : List Listed) (i : ℕ) → i < length nodes → Listed
first_node [] i lt = absurd (omega arith)
first_node (v ∷ nodes) i lt = v

-- ## What callers see

values-long : (f : ℕ → PathMap) (n : ℕ) → length (first_values f n) ≡ n
values-long f zero = refl
values-long f (suc n) = let ih = values-long f n in length-append (first_values f n) (f n ∷ []) ∙ (omega arith)

value-at : (f : ℕ → PathMap) (n k : ℕ) → k < n → get_or (first_values f n) k [] ≡ f k
value-at f zero k lt = absurd (omega arith)
value-at f (suc n) k lt = elim (cases_lt k n) [
  | inl below ↦ get_or_append_left (first_values f n) (f n ∷ []) [] k (let l = values-long f n in omega arith) ∙ value-at f n k below
  | inr top ↦
      let is : k ≡ n = omega arith in
      let long = values-long f n in
      rw is (ap (λ (i : ℕ). get_or (first_values f n ++ f n ∷ []) i []) (sym long) ∙ get_or-append_seam (first_values f n) (f n) [] [])
]

pub grove-long : (f : Folders) (opened : Option Opened) (ids : List (List ℕ)) → length (grove f opened ids).folders ≡ count_with opened (count_of f)
grove-long f None ids = values-long (map_at f.names.items f.nodes.items) (count_of f)
grove-long f (Some o) ids =
    let maps = first_values (map_at f.names.items f.nodes.items) (count_of f) in
    let long = values-long (map_at f.names.items f.nodes.items) (count_of f) in
    length-append maps (flat (open_forest f.names.items f.nodes.items o) ∷ []) ∙ ap (λ (n : ℕ). n + 1) long

pub grove-at : (f : Folders) (opened : Option Opened) (ids : List (List ℕ)) (n : ℕ) → n < count_of f → folder_map (grove f opened ids) n ≡ flat (folder_at f n)
grove-at f None ids n lt = value-at (map_at f.names.items f.nodes.items) (count_of f) n lt
grove-at f (Some o) ids n lt =
    let maps = first_values (map_at f.names.items f.nodes.items) (count_of f) in
    let long = values-long (map_at f.names.items f.nodes.items) (count_of f) in
    get_or_append_left maps (flat (open_forest f.names.items f.nodes.items o) ∷ []) [] n (omega (arith, long)) ∙ value-at (map_at f.names.items f.nodes.items) (count_of f) n lt

grove-open : (f : Folders) (o : Opened) (ids : List (List ℕ)) → folder_map (grove f (Some o) ids) (count_of f) ≡ flat (open_forest f.names.items f.nodes.items o)
grove-open f o ids =
    let maps = first_values (map_at f.names.items f.nodes.items) (count_of f) in
    let m = flat (open_forest f.names.items f.nodes.items o) in
    let long = values-long (map_at f.names.items f.nodes.items) (count_of f) in
    ap (λ (n : ℕ). get_or (maps ++ m ∷ []) n []) (sym long) ∙ get_or-append_seam maps m [] []

below_is : (n m : ℕ) (k : Option ℕ) → n ≡ m → IsBelow n k → IsBelow m k
below_is n m None e h = tt
below_is n m (Some k) e h = omega arith

pub is-tree : (f : Folders) (opened : Option Opened) (ids : List (List ℕ)) (tree : Tree) → IsTree (grove f opened ids) tree → IsBelow (count_with opened (count_of f)) tree.number
is-tree f opened ids tree h = below_is _ (count_with opened (count_of f)) tree.number (grove-long f opened ids) h

pub tree-is : (f : Folders) (opened : Option Opened) (ids : List (List ℕ)) (tree : Tree) → IsBelow (count_with opened (count_of f)) tree.number → IsTree (grove f opened ids) tree
tree-is f opened ids tree h = below_is (count_with opened (count_of f)) _ tree.number (sym (grove-long f opened ids)) h

low_with : (opened : Option Opened) (n : ℕ) (k : Option ℕ) → IsBelow n k → IsBelow (count_with opened n) k
low_with opened n None low = tt
low_with None n (Some k) low = low
low_with (Some o) n (Some k) low = omega arith

pub map_is : (f : Folders) (opened : Option Opened) (ids : List (List ℕ)) (number : Option ℕ) → IsBelow (count_of f) number → map_of_number (folder_map (grove f opened ids)) number ≡ root_map f number
map_is f opened ids None low = refl
map_is f opened ids (Some n) low = grove-at f opened ids n low

-- a tree whose number is a folder's
pub stands-for : (f : Folders) (opened : Option Opened) (ids : List (List ℕ)) (tree : Tree) (m : PathMap) → IsBelow (count_of f) tree.number → root_map f tree.number ≡ m → StandsFor (grove f opened ids) tree m
stands-for f opened ids tree m low is = record { inside = tree-is f opened ids tree (low_with opened (count_of f) tree.number low); map = map_is f opened ids tree.number low ∙ is }

stands_open : (f : Folders) (o : Opened) (ids : List (List ℕ)) (number : Option ℕ) → number ≡ Some (count_of f) → IsBelow (count_of f + 1) number × (map_of_number (folder_map (grove f (Some o) ids)) number ≡ flat (open_forest f.names.items f.nodes.items o))
stands_open f o ids number is = rw is (omega arith, grove-open f o ids)

-- the tree whose folder is open
pub stands-open : (f : Folders) (o : Opened) (ids : List (List ℕ)) (tree : Tree) (m : PathMap) → tree.number ≡ Some (count_of f) → flat (open_forest f.names.items f.nodes.items o) ≡ m → StandsFor (grove f (Some o) ids) tree m
stands-open f o ids tree m number is =
    let there = stands_open f o ids tree.number number in
    record { inside = tree-is f (Some o) ids tree there.0; map = there.1 ∙ is }

-- the tree at which changes go on
pub stands-start : (f : Folders) (s : Start) (ids : List (List ℕ)) (tree : Tree) (m : PathMap) → IsStart f s → tree.number ≡ number_of_start f s → start_map f s ≡ m → StandsFor (grove f (opened_of s) ids) tree m
stands-start f (At root) ids tree m h number is = stands-for f None ids tree m (rw number h) (rw number is)
stands-start f (In o) ids tree m h number is = stands-open f o ids tree m number is

pub keeps-stays : (a b : Folders) (o o' : Option Opened) (ids ids' : List (List ℕ)) → length ids ≤ count_of a → StaysBelow (length ids) a b → length ids' ≡ length ids → Keeps (grove a o ids) (grove b o' ids')
keeps-stays a b o o' ids ids' le s same = record {
  made = same;
  maps = λ n lt. let long = s.long in grove-at b o' ids' n (omega arith) ∙ ap flat (s.stay n lt) ∙ sym (grove-at a o ids n (omega arith));
}

-- ## What callers see of folders

pub keeps-on : (a b d : Grove) → Keeps a b → Keeps b d → Keeps a d
keeps-on a b d first then = record { made = then.made ∙ first.made; maps = λ n lt. then.maps n (rw first.made lt) ∙ first.maps n lt }

pub keeps-seen : (v : Grove) (a b : Folders) (o o' : Option Opened) (ids : List (List ℕ)) (base : ℕ) → grove a o ids ≡ v → length ids ≤ count_of a → base ≡ length ids → StaysBelow base a b → Keeps v (grove b o' ids)
keeps-seen v a b o o' ids base seen le is stays =
    subst (λ (w : Grove). Keeps w (grove b o' ids)) seen
    (keeps-stays a b o o' ids ids le (subst (λ (k : ℕ). StaysBelow k a b) is stays) refl)

-- where changes of a tree go on
abbrev pub IsStartOf : Folders → Start → PathMap → Type 0
IsStartOf f s m = IsStart f s × (start_map f s ≡ m)

start_one : (f : Folders) (o : Opened) (ids : List (List ℕ)) (n : ℕ) (b : Bool) → (n == count_of f) ≡ b → IsOpened f.names.items f.nodes.items o → n < count_of f + 1 → IsStartOf f (cond b (In o) (At (Some n))) (folder_map (grove f (Some o) ids) n)
start_one f o ids n true e h lt =
    let is : n ≡ count_of f = search (rules, tests) in
    (h, sym (ap (folder_map (grove f (Some o) ids)) is ∙ grove-open f o ids))
start_one f o ids n false e h lt =
    let ne : n ≡ count_of f → ⊥ = search (rules, tests) in
    let low : n < count_of f = omega (arith, ne) in
    (low, sym (grove-at f (Some o) ids n low))

start-in : (f : Folders) (opened : Option Opened) (ids : List (List ℕ)) (number : Option ℕ) → MayBeOpened f.names.items f.nodes.items opened → IsBelow (count_with opened (count_of f)) number → IsStartOf f (start_with opened number (count_of f)) (map_of_number (folder_map (grove f opened ids)) number)
start-in f None ids number h low = (low, sym (map_is f None ids number low))
start-in f (Some o) ids None h low = (tt, refl)
start-in f (Some o) ids (Some n) h low = start_one f o ids n (n == count_of f) refl h low

pub start-seen : (v : Grove) (a : Folders) (opened : Option Opened) (ids : List (List ℕ)) (tree : Tree) (count : ℕ) → grove a opened ids ≡ v → MayBeOpened a.names.items a.nodes.items opened → count ≡ count_of a → IsTree v tree → IsStartOf a (start_with opened tree.number count) (map_of v tree)
start-seen v a opened ids tree count seen h is t =
    let t' = subst (λ (w : Grove). IsTree w tree) (sym seen) t in
    let there = start-in a opened ids tree.number h (is-tree a opened ids tree t') in
    subst (λ (w : Grove). IsStartOf a (start_with opened tree.number count) (map_of w tree)) seen
    (subst (λ (k : ℕ). IsStartOf a (start_with opened tree.number k) (map_of (grove a opened ids) tree)) (sym is) there)

-- ## Parts and numbers

pub part-number : (f : Folders) → AreFolders f → (p : List (List ℕ)) (i : ℕ) → i < count_of f → (g : Forest) → found p (IsFolder (folder_at f i)) ≡ IsFolder g → (n : ℕ) × (n ≤ i) × (folder_at f n ≡ g)
part-number f good p i lt g e = number-of f good (first_node f.nodes.items i lt) p i lt g e

-- ## The objects made

objects-same : (id_of : Kind → List ℕ → List ℕ) (a b : ℕ → List DirectoryEntry) (from : ℕ) (os : List Object) → ((n : ℕ) → from ≤ n → n < from + length os → a n ≡ b n) → AreDirectoryObjects id_of a from os → AreDirectoryObjects id_of b from os
objects-same id_of a b from [] same h = tt
objects-same id_of a b from (o ∷ os) same h =
    let first = same from (omega arith) (omega arith) in
    (subst (λ (es : List DirectoryEntry). IsDirectoryObject id_of es o) first h.0, objects-same id_of a b (suc from) os (λ n le lt. same n (omega arith) (omega arith)) h.1)

pub bare-stays : (x y : ℕ → Forest) (n : ℕ) (empty : Option ℕ) → ((j : ℕ) → j < n → y j ≡ x j) → IsEmptyFolder x n empty → IsEmptyFolder y n empty
bare-stays x y n None stay h = tt
bare-stays x y n (Some k) stay h = (h.0, stay k h.0 ∙ h.1)

pub root_is : (f : Folders) (root : Option ℕ) → root_map f root ≡ flat (root_forest (folder_at f) root)
root_is f None = refl
root_is f (Some n) = refl

pub root-good : (f : Folders) (root : Option ℕ) → AreFolders f → IsBelow (count_of f) root → IsSound (root_forest (folder_at f) root)
root-good f None good low = tt
root-good f (Some n) good low = good.sound n low

-- what was made: the folders before, with the root's in it, and after
pub record IsMaking (id_of : Kind → List ℕ → List ℕ) (a b d : Folders) (base : ℕ) (r number : ℕ) : Type 0 where
  pub first : StaysBelow base a b
  pub then : StaysBelow base b d
  pub root : folder_at d number ≡ folder_at b r
  pub inside : number < count_of d
  pub parts : (n : ℕ) → base ≤ n → n < count_of d → IsPart (IsFolder (folder_at b r)) (folder_at d n)

pub folder_of : (f g : Forest) → IsSound f → IsPart (IsFolder f) g → IsFolderOf (flat f) (flat g)
folder_of f g s part = let has = part-has part.path f g s part.there in record { path = part.path; there = has.0; holds = sym has.1 }

below-kept : (d : Folders) (root : Option ℕ) (number : ℕ) (tree : Tree) → number < count_of d → tree.number ≡ kept_number root number → IsBelow (count_of d) tree.number
below-kept d None number tree lt kept = rw kept tt
below-kept d (Some n) number tree lt kept = rw kept lt

map-kept : (a d : Folders) (root : Option ℕ) (number : ℕ) (tree : Tree) → root_map a root ≡ flat (folder_at d number) → tree.number ≡ kept_number root number → root_map d tree.number ≡ root_map a root
map-kept a d None number tree is kept = rw kept refl
map-kept a d (Some n) number tree is kept = rw kept (sym is)

pub makes-done : (id_of : Kind → List ℕ → List ℕ) (a b d : Folders) (ids ids' : List (List ℕ)) (root : Option ℕ) (r number : ℕ) (tree : Tree) (id : List ℕ) (objects : List Object) → AreFolders a → length ids ≤ count_of a → IsMaking id_of a b d (length ids) r number → folder_at b r ≡ root_forest (folder_at a) root → length ids' ≡ count_of d → AreIds (directory_id id_of) (folder_at d) ids' → length ids + length objects ≡ count_of d → AreDirectoryObjects id_of (λ n. directory (directory_id id_of) (folder_at d n)) (length ids) objects → id ≡ get_or ids' number [] → tree.number ≡ kept_number root number → Makes id_of (grove a None ids) (grove d None ids') (root_map a root) tree id objects
makes-done id_of a b d ids ids' root r number tree id objects good le m is all known each made own kept =
    let f : Forest = folder_at d number in
    let f_is : f ≡ root_forest (folder_at a) root = m.root ∙ is in
    let s : IsSound f = m.then.good.sound number m.inside in
    let m_is : flat f ≡ root_map a root = ap flat f_is ∙ sym (root_is a root) in
    let first_is : folder_at b r ≡ f = sym m.root in
    let named = λ (n : ℕ) (lt : n < count_of d). directory-of id_of (folder_at d n) (m.then.good.sound n lt) in
    let at_d = λ (n : ℕ) (lt : n < count_of d). grove-at d None ids' n lt in
    let below = m.then.long in
    record {
      stay = λ n lt. at_d n (omega arith) ∙ ap flat (m.then.stay n lt ∙ m.first.stay n lt) ∙ sym (grove-at a None ids n (omega arith));
      all = all ∙ sym (grove-long d None ids');
      stands = stands-for d None ids' tree (root_map a root) (below-kept d root number tree m.inside kept) (map-kept a d root number tree (sym m_is) kept);
      named = own ∙ known number (omega (arith, m.inside)) ∙ ap (directory_id id_of) (sym (named number m.inside)) ∙ ap (λ (x : PathMap). directory_id id_of (directory_of id_of x)) m_is;
      each = each ∙ sym all;
      made = objects-same id_of (λ n. directory (directory_id id_of) (folder_at d n)) (λ n. directory_of id_of (folder_map (grove d None ids') n)) (length ids) objects (λ n le lt. sym (ap (directory_of id_of) (at_d n (omega arith)) ∙ named n (omega arith))) made;
      parts = λ n le lt. subst (λ (x : PathMap). IsFolderOf (root_map a root) x) (sym (at_d n (omega arith))) (subst (λ (x : PathMap). IsFolderOf x (flat (folder_at d n))) m_is (folder_of f (folder_at d n) s (subst (λ (h : Forest). IsPart (IsFolder h) (folder_at d n)) first_is (m.parts n le (omega arith)))));
      whole = λ path h. subst (λ (x : PathMap). HasFolder x path → IsNumbered (grove d None ids') (length ids') (held path x)) m_is (λ h'.
          let part = has-part path f s h' in
          let there = part-number d m.then.good path number m.inside part.0 part.1 in
          let has = part-has path f part.0 s part.1 in
          let le : there.0 ≤ number = there.1 in
          let lt = m.inside in
          record { number = there.0; within = omega arith; map = at_d there.0 (omega arith) ∙ ap flat there.2 ∙ sym has.1 }) h;
      children = λ n name lt h.
          let within : n < count_of d = omega arith in
          let here = m.then.good.sound n within in
          let own_map = at_d n within in
          let h' : HasFolder (flat (folder_at d n)) (name ∷ []) = subst (λ (x : PathMap). HasFolder x (name ∷ [])) own_map h in
          let part = has-part (name ∷ []) (folder_at d n) here h' in
          let there = child-below d m.then.good n within (first_node d.nodes.items n within) name part.0 part.1 in
          let has = part-has (name ∷ []) (folder_at d n) part.0 here part.1 in
          let low : there.0 < n = there.1 in
          record { number = there.0; within = there.1; map = at_d there.0 (omega arith) ∙ ap flat there.2 ∙ sym has.1 ∙ ap (held (name ∷ [])) (sym own_map) };
    }

pub explained : (id_of : Kind → List ℕ → List ℕ) (a : Folders) (root : Option ℕ) (f : Forest) (fault : TreeFault) → IsSound f → f ≡ root_forest (folder_at a) root → ExplainsPart (directory_id id_of) (IsFolder f) fault → ExplainsTree id_of (root_map a root) fault
explained id_of a root f Memory s is h = tt
explained id_of a root f (TooLong len) s is h =
    let g = h.0 in
    let part = h.1 in
    let has = part-has part.path f h.0 s part.there in
    let map_is : flat f ≡ root_map a root = ap flat is ∙ sym (root_is a root) in
    let good : IsSound h.0 = part-sound (IsFolder f) h.0 s part in
    let long = h.2 ∙ ap (λ (es : List DirectoryEntry). length (directory_text es)) (sym (directory-of id_of h.0 good) ∙ ap (directory_of id_of) (sym has.1)) in
    subst (λ (x : PathMap). ExplainsTree id_of x (TooLong len)) map_is (part.path, has.0, long, h.3)

pub on-err : {A E P : Type 0} (r : Result A E) → P → OnErr r P
on-err (Ok x) p = tt
on-err (Err e) p = p

-- seen from folders before
pub makes-from : (id_of : Kind → List ℕ → List ℕ) (a b : Folders) (opened : Option Opened) (ids : List (List ℕ)) (new : Grove) (m : PathMap) (tree : Tree) (id : List ℕ) (objects : List Object) → length ids ≤ count_of a → StaysBelow (length ids) a b → Makes id_of (grove b None ids) new m tree id objects → Makes id_of (grove a opened ids) new m tree id objects
makes-from id_of a b opened ids new m tree id objects le s h = record {
  stay = λ n lt. let long = s.long in h.stay n lt ∙ grove-at b None ids n (omega arith) ∙ ap flat (s.stay n lt) ∙ sym (grove-at a opened ids n (omega arith));
  all = h.all;
  stands = h.stands;
  named = h.named;
  each = h.each;
  made = h.made;
  parts = h.parts;
  whole = h.whole;
  children = h.children;
}

-- where changes of a tree of these trees go on
pub start-of : (v : Grove) (a : Folders) (opened taken : Option Opened) (ids : List (List ℕ)) (tree : Tree) (count : ℕ) (s : Start) → grove a opened ids ≡ v → MayBeOpened a.names.items a.nodes.items opened → IsTree v tree → count ≡ count_of a → taken ≡ opened → s ≡ start_with taken tree.number count → IsStartOf a s (map_of v tree)
start-of v a opened taken ids tree count s seen h t is took begins =
    subst (λ (w : Start). IsStartOf a w (map_of v tree)) (sym (begins ∙ ap (λ (o : Option Opened). start_with o tree.number count) took))
    (start-seen v a opened ids tree count seen h is t)

pub tree-seen : (v : Grove) (a : Folders) (opened : Option Opened) (ids : List (List ℕ)) (tree : Tree) → grove a opened ids ≡ v → IsTree v tree → IsBelow (count_with opened (count_of a)) tree.number
tree-seen v a opened ids tree seen h = is-tree a opened ids tree (subst (λ (w : Grove). IsTree w tree) (sym seen) h)

number_one : (f : Folders) (o : Opened) (n : ℕ) (b : Bool) → (n == count_of f) ≡ b → number_of_start f (cond b (In o) (At (Some n))) ≡ Some n
number_one f o n true e = let is : n ≡ count_of f = search (rules, tests) in ap Some (sym is)
number_one f o n false e = refl

start_number : (f : Folders) (opened : Option Opened) (number : Option ℕ) → number_of_start f (start_with opened number (count_of f)) ≡ number
start_number f None number = refl
start_number f (Some o) None = refl
start_number f (Some o) (Some n) = number_one f o n (n == count_of f) refl

-- by which number the tree is known at which changes go on
pub number-start : (f : Folders) (opened taken : Option Opened) (number : Option ℕ) (count : ℕ) (s : Start) → count ≡ count_of f → taken ≡ opened → s ≡ start_with taken number count → number_of_start f s ≡ number
number-start f opened taken number count s is took begins =
    ap (number_of_start f) (begins ∙ ap (λ (o : Option Opened). start_with o number count) took ∙ ap (start_with opened number) is) ∙ start_number f opened number
