-- A making has a list of its objects: those that it lists, and the directories of each folder of its trees.
use Rattle.std.proofs.Common.{◌≡◌, ◌⊎◌, inl, inr, ℕ, Bool, true, false, cond, List, [], ◌∷◌, ◌++◌, map, Option, Some, Contains, refl, sym, ap, ◌∙◌, subst}
use Rattle.std.specs.List.{flat_map}
use Rattle.std.proofs.lemmas.List.Elements.{Contains-append_left, Contains-append_right, Contains-append_cases}
use Rattle.swh_base.specs.declared.kind.Kind.{Kind}
use Rattle.swh_base.specs.Directory.{directory_text}
use Rattle.swh_base.proofs.Elementary.{none_in}
use Rattle.swh_model.specs.Meaning.{Made, directory}
use Rattle.swh_graph.proofs.Lists.{in_first, in_rest, in_cases, in_map, from_map}
use Rattle.swh_entries.specs.declared.entry.Leaf.{Leaf}
use Rattle.swh_forest.specs.PathMap.{PathMap, HasFolder, held, leaf_at, same_path}
use Rattle.swh_forest.proofs.Lookups.{path_is, path_self}
use Rattle.swh_trees.specs.Directory.{directory_of}
use Rattle.swh_fastmeaning.specs.Commands.{Making, Makes}

abbrev Path : Type 0
Path = List (List ℕ)

-- ## Lists of lists

in_flat : {X Y : Type 0} (f : X → List Y) (xs : List X) (x : X) (y : Y) → Contains xs x → Contains (f x) y → Contains (flat_map f xs) y
in_flat f [] x y there one = absurd (none_in x there)
in_flat {X} {Y} f (z ∷ xs) x y there one = elim (in_cases z xs x there) [
  | inl same ↦ Contains-append_left (f z) (flat_map f xs) y (subst (λ (w : X). Contains (f w) y) (sym same) one)
  | inr later ↦ Contains-append_right (f z) (flat_map f xs) y (in_flat f xs x y later one)
]

from_flat : {X Y : Type 0} (f : X → List Y) (xs : List X) (y : Y) → Contains (flat_map f xs) y → (x : X) × Contains xs x × Contains (f x) y
from_flat f [] y there = absurd (none_in y there)
from_flat f (z ∷ xs) y there = elim (Contains-append_cases (f z) (flat_map f xs) y there) [
  | inl own ↦ (z, in_first z xs, own)
  | inr later ↦ let r = from_flat f xs y later in (r.0, in_rest z xs r.0 r.1, r.2)
]

-- ## Fronts of paths

-- the proper fronts of a path
abbrev fronts : Path → List Path
fronts [] = []
fronts (c ∷ p) = [] ∷ map (λ (q : Path). c ∷ q) (fronts p)

record GoesOn (path front : Path) : Type 0 where
  first : List ℕ
  rest : Path
  is : path ≡ front ++ first ∷ rest

front_on : (path front : Path) → Contains (fronts path) front → GoesOn path front
front_on [] front there = absurd (none_in front there)
front_on (c ∷ p) front there = elim (in_cases [] (map (λ (q : Path). c ∷ q) (fronts p)) front there) [
  | inl same ↦ record { first = c; rest = p; is = ap (λ (f : Path). f ++ c ∷ p) same }
  | inr later ↦
      let k = from_map (λ (q : Path). c ∷ q) (fronts p) front later in
      let g = front_on p k.0 k.1.0 in
      record { first = g.first; rest = g.rest; is = ap (λ (r : Path). c ∷ r) g.is ∙ ap (λ (f : Path). f ++ g.first ∷ g.rest) k.1.1 }
]

to_front : (front : Path) (c : List ℕ) (q : Path) → Contains (fronts (front ++ c ∷ q)) front
to_front [] c q = in_first [] (map (λ (r : Path). c ∷ r) (fronts q))
to_front (d ∷ front) c q = in_rest [] (map (λ (r : Path). d ∷ r) (fronts (front ++ c ∷ q))) (d ∷ front) (in_map (λ (r : Path). d ∷ r) (fronts (front ++ c ∷ q)) front (to_front front c q))

-- ## Folders of a map

abbrev folder_paths : PathMap → List Path
folder_paths m = [] ∷ flat_map (λ (e : Path × Leaf). fronts e.0) m

leaf_by : (b : Bool) (e : Path × Leaf) (m : PathMap) (p : Path) (l : Leaf) → same_path e.0 p ≡ b → cond b (Some e.1) (leaf_at p m) ≡ Some l → (leaf_at p m ≡ Some l → (x : Path × Leaf) × Contains m x × (x.0 ≡ p)) → (x : Path × Leaf) × Contains (e ∷ m) x × (x.0 ≡ p)
leaf_by true e m p l is h ih = (e, in_first e m, path_is e.0 p is)
leaf_by false e m p l is h ih = let r = ih h in (r.0, in_rest e m r.0 r.1, r.2)

leaf_in : (m : PathMap) (p : Path) (l : Leaf) → leaf_at p m ≡ Some l → (x : Path × Leaf) × Contains m x × (x.0 ≡ p)
leaf_in [] p l h = absurd cc
leaf_in (e ∷ m) p l h = leaf_by (same_path e.0 p) e m p l refl h (leaf_in m p l)

some_leaf : (b : Bool) (e : Path × Leaf) (o : Option Leaf) → ((l : Leaf) × (o ≡ Some l)) ⊎ (b ≡ true) → (l : Leaf) × (cond b (Some e.1) o ≡ Some l)
some_leaf true e o h = (e.1, refl)
some_leaf false e o (inl h) = h
some_leaf false e o (inr h) = absurd cc

in_leaf : (m : PathMap) (x : Path × Leaf) → Contains m x → (l : Leaf) × (leaf_at x.0 m ≡ Some l)
in_leaf [] x there = absurd (none_in x there)
in_leaf (e ∷ m) x there = elim (in_cases e m x there) [
  | inl same ↦ some_leaf (same_path e.0 x.0) e (leaf_at x.0 m) (inr (ap (λ (y : Path × Leaf). same_path e.0 y.0) (sym same) ∙ path_self e.0))
  | inr later ↦ some_leaf (same_path e.0 x.0) e (leaf_at x.0 m) (inl (in_leaf m x later))
]

to_folder : (m : PathMap) (path : Path) → HasFolder m path → Contains (folder_paths m) path
to_folder m [] h = in_first [] (flat_map (λ (e : Path × Leaf). fronts e.0) m)
to_folder m (d ∷ p) (c, q, l, h) =
    let x = leaf_in m ((d ∷ p) ++ c ∷ q) l h in
    in_rest [] (flat_map (λ (e : Path × Leaf). fronts e.0) m) (d ∷ p)
    (in_flat (λ (e : Path × Leaf). fronts e.0) m x.0 (d ∷ p) x.1 (subst (λ (f : Path). Contains (fronts f) (d ∷ p)) (sym x.2) (to_front (d ∷ p) c q)))

from_folder : (m : PathMap) (path : Path) → Contains (folder_paths m) path → HasFolder m path
from_folder m [] there = tt
from_folder m (d ∷ p) there = elim (in_cases [] (flat_map (λ (e : Path × Leaf). fronts e.0) m) (d ∷ p) there) [
  | inl same ↦ absurd cc
  | inr later ↦
      let x = from_flat (λ (e : Path × Leaf). fronts e.0) m (d ∷ p) later in
      let g = front_on x.0.0 (d ∷ p) x.2 in
      let l = in_leaf m x.0 x.1 in
      (g.first, g.rest, l.0, ap (λ (f : Path). leaf_at f m) (sym g.is) ∙ l.1)
]

-- ## Objects

module _ (id : Kind → List ℕ → List ℕ) where
  abbrev folder_object : PathMap → Path → Made
  folder_object m path = directory (directory_text (directory_of id (held path m)))

  abbrev folder_objects : PathMap → List Made
  folder_objects m = map (folder_object m) (folder_paths m)

  abbrev pub objects_in : Making → List Made
  objects_in m = m.objects ++ flat_map folder_objects m.trees

  pub made_in : (m : Making) (o : Made) → Makes id m o → Contains (objects_in m) o
  made_in m o (inl there) = Contains-append_left m.objects (flat_map folder_objects m.trees) o there
  made_in m o (inr (tree, there, d)) =
      let one : Contains (folder_objects tree) o = subst (Contains (folder_objects tree)) (sym d.is) (in_map (folder_object tree) (folder_paths tree) d.path (to_folder tree d.path d.folder)) in
      Contains-append_right m.objects (flat_map folder_objects m.trees) o (in_flat folder_objects m.trees tree o there one)

  pub in_made : (m : Making) (o : Made) → Contains (objects_in m) o → Makes id m o
  in_made m o there = elim (Contains-append_cases m.objects (flat_map folder_objects m.trees) o there) [
    | inl own ↦ inl own
    | inr later ↦
        let t = from_flat folder_objects m.trees o later in
        let p = from_map (folder_object t.0) (folder_paths t.0) o t.2 in
        inr (t.0, t.1, record { path = p.0; folder = from_folder t.0 p.0 p.1.0; is = sym p.1.1 })
  ]
