-- Each folder of the map of a directory that is held is a directory that is held.
use Rattle.std.proofs.Common.{◌≡◌, ℕ, Bool, true, false, cond, List, [], ◌∷◌, ◌++◌, Option, Some, None, refl, sym, ap, ◌∙◌, subst}
use Rattle.swh_base.specs.declared.kind.Kind.{Kind}
use Rattle.swh_base.specs.declared.kind.Kind.TheVariants.{Directory as DirectoryKind}
use Rattle.swh_base.specs.declared.name.Name.{Name}
use Rattle.swh_base.specs.Directory.{directory_text}
use Rattle.swh_model.specs.Archive.{Bodies, body_of}
use Rattle.swh_model.specs.Meaning.{Made}
use Rattle.swh_graph.specs.Holding.{HoldsDirectory}
use Rattle.swh_graph.specs.Path.{directory_name}
use Rattle.swh_entries.specs.declared.entry.Leaf.{Leaf}
use Rattle.swh_forest.specs.Forest.{Forest, Nothing, IsFile, IsFolder, Stands, child_at, flat, found, leaf_of as leaf_in, shown}
use Rattle.swh_forest.specs.PathMap.{PathMap, HasFolder, held, held_by, leaf_at, same}
use Rattle.swh_forest.specs.Sound.{IsSound}
use Rattle.swh_forest.proofs.Flats.{held-by}
use Rattle.swh_forest.proofs.Lookups.{lookup, found-nothing, found-file}
use Rattle.swh_trees.specs.Directory.{directory_of}
use Rattle.swh_trees.proofs.Directories.{directory-of}
use Rattle.swh_pathwalk.specs.Tree.{Tree, End, Leaf as TreeLeaf, Folder, entries_in, AreHeldUnder}
use Rattle.swh_fastmeaning.specs.Commands.{IsDirectoryIn}
use Rattle.swh_roundtrip.specs.Trees.{leaf_of, HasNoEmptyFolder}
use Rattle.swh_roundtrip.specs.Sound.{AreNamed}
use Rattle.swh_roundtrip.proofs.TreeForests.{forest_of, sound-forest, forest-directory}

module _ (bodies : Bodies) where
  -- The tree is that of a directory that is held.
  pub record IsHeldHere (t : Tree) : Type 0 where
    pub name : Name
    pub kind : name.kind ≡ DirectoryKind
    pub top : HoldsDirectory bodies name (entries_in t)
    pub under : AreHeldUnder bodies t
    pub full : HasNoEmptyFolder t

  -- A folder that stands here is that of such a tree.
  record IsChildTree (g : Forest) : Type 0 where
    tree : Tree
    is : g ≡ forest_of tree
    here : IsHeldHere tree

  child_case : (b : Bool) (x y : Stands) (g : Forest) → cond b x y ≡ IsFolder g → (x ≡ IsFolder g → IsChildTree g) → (y ≡ IsFolder g → IsChildTree g) → IsChildTree g
  child_case true x y g e h k = h e
  child_case false x y g e h k = k e

  same_folder : (f g : Forest) → IsFolder f ≡ IsFolder g → g ≡ f
  same_folder f g e = cc

  child_tree : (c : List ℕ) (t : Tree) (g : Forest) → AreHeldUnder bodies t → HasNoEmptyFolder t → child_at c (forest_of t) ≡ IsFolder g → IsChildTree g
  child_tree c End g h full e = absurd cc
  child_tree c (TreeLeaf x rest) g h full e = child_case (same x.name c) (IsFile (leaf_of x)) (child_at c (forest_of rest)) g e (λ z. absurd cc) (λ z. child_tree c rest g h.1 full z)
  child_tree c (Folder x inner rest) g h full e =
      child_case (same x.name c) (IsFolder (forest_of inner)) (child_at c (forest_of rest)) g e
      (λ z. record { tree = inner; is = same_folder (forest_of inner) g z; here = record { name = directory_name x.id; kind = refl; top = h.1; under = h.2; full = full.1 } })
      (λ z. child_tree c rest g h.3 full.2 z)

  sound_here : (t : Tree) → IsHeldHere t → IsSound (forest_of t)
  sound_here t h = sound-forest bodies t h.top.is.good h.under h.full

  no_leaf : (q : List (List ℕ)) (l : Leaf) (x : Option Leaf) → x ≡ leaf_in (found q Nothing) → x ≡ Some l → ⊥
  no_leaf q l x e is = let n : x ≡ None = e ∙ ap leaf_in (found-nothing q) in let bad : None ≡ Some l = sym n ∙ is in cc

  no_leaf_file : (d : List ℕ) (q : List (List ℕ)) (k l : Leaf) (x : Option Leaf) → x ≡ leaf_in (found (d ∷ q) (IsFile k)) → x ≡ Some l → ⊥
  no_leaf_file d q k l x e is = let n : x ≡ None = e ∙ ap leaf_in (found-file d q k) in let bad : None ≡ Some l = sym n ∙ is in cc

  -- where a path goes on from a name, a folder stands there
  record GoesIn (c : List ℕ) (p : List (List ℕ)) (t : Tree) : Type 0 where
    folder : Forest
    stands : child_at c (forest_of t) ≡ IsFolder folder
    on : HasFolder (flat folder) p

  goes_by : (x : Stands) (c : List ℕ) (p : List (List ℕ)) (t : Tree) → IsHeldHere t → child_at c (forest_of t) ≡ x → HasFolder (flat (forest_of t)) (c ∷ p) → GoesIn c p t
  goes_by Nothing c [] t h is (d, q, l, at) = absurd (no_leaf (d ∷ q) l (leaf_at (c ∷ d ∷ q) (flat (forest_of t))) (lookup (d ∷ q) c (forest_of t) (sound_here t h) ∙ ap (λ (x : Stands). leaf_in (found (d ∷ q) x)) is) at)
  goes_by Nothing c (e ∷ p) t h is (d, q, l, at) =
      let r : List (List ℕ) = (e ∷ p) ++ d ∷ q in
      absurd (no_leaf r l (leaf_at (c ∷ r) (flat (forest_of t))) (lookup r c (forest_of t) (sound_here t h) ∙ ap (λ (x : Stands). leaf_in (found r x)) is) at)
  goes_by (IsFile k) c [] t h is (d, q, l, at) = absurd (no_leaf_file d q k l (leaf_at (c ∷ d ∷ q) (flat (forest_of t))) (lookup (d ∷ q) c (forest_of t) (sound_here t h) ∙ ap (λ (x : Stands). leaf_in (found (d ∷ q) x)) is) at)
  goes_by (IsFile k) c (e ∷ p) t h is (d, q, l, at) =
      let r : List (List ℕ) = p ++ d ∷ q in
      absurd (no_leaf_file e r k l (leaf_at (c ∷ e ∷ r) (flat (forest_of t))) (lookup (e ∷ r) c (forest_of t) (sound_here t h) ∙ ap (λ (x : Stands). leaf_in (found (e ∷ r) x)) is) at)
  goes_by (IsFolder g) c [] t h is has = record { folder = g; stands = is; on = tt }
  goes_by (IsFolder g) c (e ∷ p) t h is (d, q, l, at) =
      let r : List (List ℕ) = p ++ d ∷ q in
      let k = child_tree c t g h.under h.full is in
      let sound : IsSound g = subst IsSound (sym k.is) (sound_here k.tree k.here) in
      let one : leaf_at (c ∷ e ∷ r) (flat (forest_of t)) ≡ leaf_in (found (e ∷ r) (IsFolder g)) = lookup (e ∷ r) c (forest_of t) (sound_here t h) ∙ ap (λ (x : Stands). leaf_in (found (e ∷ r) x)) is in
      let two : leaf_at (e ∷ r) (flat g) ≡ leaf_in (found r (child_at e g)) = lookup r e g sound in
      record { folder = g; stands = is; on = (d, q, l, two ∙ sym one ∙ at) }

  module _ (id : Kind → List ℕ → List ℕ) (named : AreNamed id bodies) where
    -- The directory of what is held at a path is held.
    pub record IsHeldAt (m : PathMap) : Type 0 where
      pub name : Name
      pub kind : name.kind ≡ DirectoryKind
      pub holds : HoldsDirectory bodies name (directory_of id m)

    top_held : (t : Tree) → IsHeldHere t → IsHeldAt (flat (forest_of t))
    top_held t h =
        let same : directory_of id (flat (forest_of t)) ≡ entries_in t = directory-of id (forest_of t) (sound_here t h) ∙ forest-directory id bodies named t h.under in
        record { name = h.name; kind = h.kind; holds = subst (HoldsDirectory bodies h.name) (sym same) h.top }

    held_at : (path : List (List ℕ)) (t : Tree) → IsHeldHere t → HasFolder (flat (forest_of t)) path → IsHeldAt (held path (flat (forest_of t)))
    held_at [] t h has = top_held t h
    held_at (c ∷ p) t h has =
        let g = goes_by (child_at c (forest_of t)) c p t h refl has in
        let k = child_tree c t g.folder h.under h.full g.stands in
        let shown_is : held_by c (flat (forest_of t)) ≡ flat (forest_of k.tree) = held-by c (forest_of t) (sound_here t h) ∙ ap shown g.stands ∙ ap flat k.is in
        subst (λ (m : PathMap). IsHeldAt (held p m)) (sym shown_is) (held_at p k.tree k.here (subst (λ (f : Forest). HasFolder (flat f) p) k.is g.on))

    -- A body of one of its directories is held.
    pub folder_held : (t : Tree) → IsHeldHere t → (m : PathMap) → m ≡ flat (forest_of t) → (o : Made) → IsDirectoryIn id m o → (n : Name) × (n.kind ≡ o.kind) × (body_of bodies n ≡ Some o.body)
    folder_held t h m is o d =
        let there = held_at d.path t h (subst (λ (x : PathMap). HasFolder x d.path) is d.folder) in
        let text : directory_text (directory_of id (held d.path m)) ≡ there.holds.body = ap (λ (x : PathMap). directory_text (directory_of id (held d.path x))) is ∙ sym there.holds.is.text in
        (there.name, there.kind ∙ sym (ap (λ (x : Made). x.kind) d.is), there.holds.held ∙ ap (λ (b : List ℕ). Some b) (sym text ∙ sym (ap (λ (x : Made). x.body) d.is)))
