-- Marked folders: what marking one more does, and that the marked ones are parts of the root.
use Rattle.std.proofs.Common.{◌≡◌, ℕ, ◌+◌, ◌<◌, ◌≤◌, Bool, true, List, [], ◌∷◌, ◌++◌, length, take, drop, get_or, ap, subst, ◌∙◌, inl, inr, ◌⊎◌, arith}
use Rattle.std.proofs.lemmas.Bool.{cases_lt}
use Rattle.std.proofs.lemmas.List.{get_or_default, drop_all, take_all, append-nil}
use Rattle.std.specs.Global.{Vec}
use Rattle.swh_entries.specs.declared.entry.Child.{Child}
use Rattle.swh_entries.specs.declared.entry.Child.TheVariants.{File as FileChild, Folder as FolderChild}
use Rattle.swh_entries.specs.declared.entry.Entry.{Entry}
use Rattle.swh_entries.specs.Listed.{Listed}
use Rattle.swh_forest.specs.Arena.{stands, forest_of, tree_at, IsArena, IsLower}
use Rattle.swh_entries.specs.Keys.{name_at, texts}
use Rattle.swh_forest.specs.Forest.{Forest, Stands, Nothing, IsFile, IsFolder, child_at, forest, step, found}
use Rattle.swh_forest.specs.Sound.{IsSound, IsSoundHere}
use Rattle.swh_forest.specs.Roots.{AreSound}
use Rattle.swh_folders.specs.Live.{is_live, IsMarked, AreMarked, HasChild, AreLower, IsClosed, IsPart, AreLiveParts}
use Rattle.swh_forest.proofs.Arenas.{tree-node, entries-low}
use Rattle.swh_forest.proofs.Lookups.{found-append}
use Rattle.swh_forest.proofs.Sounds.{found-sound, child-sound}
use Rattle.swh_forest.proofs.Steps.{child-of-entry, good-at}

-- ## Marks

pub marked-more : (base : ℕ) (old new : List Bool) (c : Child) → ((j : ℕ) → base ≤ j → is_live base old j ≡ true → is_live base new j ≡ true) → IsMarked base old c → IsMarked base new c
marked-more base old new (FileChild l) more m = tt
marked-more base old new (FolderChild j) more m = λ le. more j le (m le)

pub mark-step : (base : ℕ) (old new : List Bool) (es : List Entry) (i : ℕ) (d : Entry) → i < length es → ((j : ℕ) → base ≤ j → is_live base old j ≡ true → is_live base new j ≡ true) → IsMarked base new (get_or es i d).child → AreMarked base old es i → AreMarked base new es (i + 1)
mark-step base old new es i d lt more own m k d' h = elim (cases_lt k i) [
  | inl below ↦ marked-more base old new (get_or es k d').child more (m k d' below)
  | inr top ↦
      let is : k ≡ i = omega arith in
      let one : get_or es i d ≡ get_or es k d' = rw is (get_or_default es i d d' lt) in
      subst (λ (e : Entry). IsMarked base new e.child) one own
]

pub only-step : (base : ℕ) (first old new : List Bool) (es : List Entry) (i : ℕ) (d : Entry) (j : ℕ) → (is_live base new j ≡ true → (is_live base old j ≡ true) ⊎ ((get_or es i d).child ≡ FolderChild j)) → (is_live base old j ≡ true → (is_live base first j ≡ true) ⊎ HasChild es i j) → is_live base new j ≡ true → (is_live base first j ≡ true) ⊎ HasChild es (i + 1) j
only-step base first old new es i d j one before h = elim (one h) [
  | inl was ↦ elim (before was) [
    | inl was' ↦ inl was'
    | inr child ↦ inr (record { place = child.place; other = child.other; within = let lt = child.within in omega arith; child = child.child })
  ]
  | inr own ↦ inr (record { place = i; other = d; within = omega arith; child = own })
]

-- ## Parts of a root

-- a child of a part is a part
pub part-child : (names : List (Vec ℕ)) (nodes : List Listed) (x : Stands) (i j : ℕ) (w : Listed) → IsArena names nodes → AreSound names nodes → i < length nodes → IsPart x (tree_at names nodes i) → HasChild (get_or nodes i w).items (length (get_or nodes i w).items) j → IsPart x (tree_at names nodes j)
part-child names nodes x i j w arena sound lt part h =
    let at = tree_at names nodes in
    let v : Listed = get_or nodes i w in
    let es : List Entry = v.items in
    let e : Entry = get_or es h.place h.other in
    let own : v ≡ get_or nodes i v = get_or_default nodes i w v lt in
    let node : tree_at names nodes i ≡ forest_of (texts names) at es = tree-node names nodes i v arena lt own in
    let here : IsSound (forest_of (texts names) at es) = subst IsSound node (sound i lt) in
    let child : child_at (name_at (texts names) e.name) (tree_at names nodes i) ≡ IsFolder (tree_at names nodes j) =
    ap (child_at (name_at (texts names) e.name)) node ∙ child-of-entry (texts names) at es h.place h.other h.within here ∙ ap (stands at) h.child in
    record {
      path = part.path ++ name_at (texts names) e.name ∷ [];
      there = found-append part.path (name_at (texts names) e.name ∷ []) x ∙ ap (λ (z : Stands). step (name_at (texts names) e.name) z) part.there ∙ child;
    }

pub arena-lower : (names : List (Vec ℕ)) (nodes : List Listed) → IsArena names nodes → AreLower nodes
arena-lower names nodes arena i w k d lt within = good-at (length names) i (get_or nodes i w).items k d (entries-low names nodes i (get_or nodes i w) arena lt (get_or_default nodes i w (get_or nodes i w) lt)) within

folder_sound : (x : Stands) (g : Forest) → IsSoundHere x → x ≡ IsFolder g → IsSound g
folder_sound Nothing g h e = absurd cc
folder_sound (IsFile l) g h e = absurd cc
folder_sound (IsFolder f) g h e = let is : f ≡ g = cc in subst IsSound is h.1

part_sound : (p : List (List ℕ)) (x : Stands) (g : Forest) → IsSound (forest x) → found p x ≡ IsFolder g → IsSound g
part_sound [] x g s e = subst IsSound (ap forest e) s
part_sound (c ∷ p) x g s e = folder_sound (found p (child_at c (forest x))) g (found-sound p (child_at c (forest x)) (child-sound c (forest x) s)) e

pub part-sound : (x : Stands) (g : Forest) → IsSound (forest x) → IsPart x g → IsSound g
part-sound x g s part = part_sound part.path x g s part.there

-- ## The walk down

pub parts-step : (names : List (Vec ℕ)) (nodes : List Listed) (base i root : ℕ) (w : Listed) (old new : List Bool) → IsArena names nodes → AreSound names nodes → base ≤ i → i < length nodes → is_live base old i ≡ true → ((j : ℕ) → base ≤ j → is_live base new j ≡ true → (is_live base old j ≡ true) ⊎ HasChild (get_or nodes i w).items (length (get_or nodes i w).items) j) → AreLiveParts (tree_at names nodes) base old (length nodes) (IsFolder (tree_at names nodes root)) → AreLiveParts (tree_at names nodes) base new (length nodes) (IsFolder (tree_at names nodes root))
parts-step names nodes base i root w old new arena sound le lt live only parts j le' lt' h = elim (only j le' h) [
  | inl was ↦ parts j le' lt' was
  | inr child ↦ part-child names nodes (IsFolder (tree_at names nodes root)) i j w arena sound lt (parts i le lt live) child
]

child_low : (i j : ℕ) (c : Child) → IsLower i c → c ≡ FolderChild j → j < i
child_low i j (FileChild l) low e = absurd cc
child_low i j (FolderChild k) low e = let is : k ≡ j = cc in omega arith

-- marking a folder's own folders closes it, and reopens none above it
pub closed-step : (base i : ℕ) (nodes : List Listed) (w : Listed) (old new : List Bool) → AreLower nodes → i < length nodes → base ≤ i → AreMarked base new (get_or nodes i w).items (length (get_or nodes i w).items) → ((j : ℕ) → base ≤ j → is_live base old j ≡ true → is_live base new j ≡ true) → ((j : ℕ) → base ≤ j → is_live base new j ≡ true → (is_live base old j ≡ true) ⊎ HasChild (get_or nodes i w).items (length (get_or nodes i w).items) j) → IsClosed base old nodes (i + 1) → IsClosed base new nodes i
closed-step base i nodes w old new lower lt le own more only closed i' w' from within h = elim (cases_lt i i') [
  | inl above ↦ elim (only i' (omega arith) h) [
    | inl was ↦ λ k d lt'. marked-more base old new (get_or (get_or nodes i' w').items k d).child more (closed i' w' (omega arith) within was k d lt')
    | inr child ↦ let low = child_low i i' (get_or (get_or nodes i w).items child.place child.other).child (lower i w child.place child.other lt child.within) child.child in absurd (omega arith)
  ]
  | inr top ↦
      let is : i' ≡ i = omega arith in
      let node : get_or nodes i w ≡ get_or nodes i' w' = rw is (get_or_default nodes i w w' lt) in
      subst (λ (v : Listed). AreMarked base new v.items (length v.items)) node own
]

-- marks that were written through a slice
pub written-back : (n : ℕ) (xs ys : List Bool) → length ys ≡ length xs → n ≡ length xs → take n (ys ++ drop (length ys) xs) ≡ ys
written-back n xs ys long is =
    let none : drop (length ys) xs ≡ [] = drop_all (length ys) xs (omega arith) in
    rw (none, append-nil) (take_all n ys (omega arith))
