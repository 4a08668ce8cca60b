-- The folder of a directory's tree: its map is what the path walk sets, and its directory is that of the tree.
use Rattle.std.proofs.Common.{◌≡◌, ◌≢◌, inl, inr, ℕ, ◌==◌, Bool, true, false, cond, List, [], ◌∷◌, ◌++◌, Some, refl, sym, ap, ◌∙◌, subst, append_assoc}
use Rattle.std.specs.Prelude.{Contains}
use Rattle.std.specs.List.{flat_map, AllByRecursion}
use Rattle.std.specs.Ordering.{is_lt}
use Rattle.std.proofs.lemmas.Bool.{eqb-true}
use Rattle.std.proofs.lemmas.List.{append-nil}
use Rattle.swh_base.specs.declared.kind.Kind.{Kind}
use Rattle.swh_base.specs.declared.kind.Kind.TheVariants.{Directory}
use Rattle.swh_base.specs.declared.name.Name.{Name}
use Rattle.swh_base.specs.Directory.{DirectoryEntry, IsMode, AreEntries, IsBefore, sort_key, suffix_of}
use Rattle.swh_model.specs.Archive.{Bodies, body_of}
use Rattle.swh_graph.specs.Holding.{HoldsDirectory}
use Rattle.swh_graph.specs.Path.{directory_name}
use Rattle.swh_entries.specs.Keys.{is_before}
use Rattle.swh_fastlex.specs.Path.{components}
use Rattle.swh_fastlex.proofs.Components.{components_none, components_at}
use Rattle.swh_forest.specs.Forest.{Forest, Bare, File, Folder as FolderOf, Nothing, child_at, flat}
use Rattle.swh_forest.specs.PathMap.{PathMap, set}
use Rattle.swh_forest.specs.Sound.{IsSound, Follows}
use Rattle.swh_forest.specs.Leaf.{IsLeafMode}
use Rattle.swh_forest.proofs.Grafts.{not_same}
use Rattle.swh_forest.proofs.Flats.{under}
use Rattle.swh_trees.specs.Directory.{directory_id, directory_of}
use Rattle.swh_trees.specs.Listing.{directory}
use Rattle.swh_trees.proofs.Directories.{directory-of}
use Rattle.swh_pathwalk.specs.Tree.{Tree, End, Leaf as TreeLeaf, Folder, entries_in, AreHeldUnder, IsTreeOf, Row, path_walk}
use Rattle.swh_roundtrip.specs.Trees.{leaf_of, with_row, with_rows, HasNoEmptyFolder}
use Rattle.swh_roundtrip.proofs.PathSets.{sets, sets-append, sets-under, sets-flat}

-- ## The folder

abbrev pub forest_of : Tree → Forest
forest_of End = Bare
forest_of (TreeLeaf e rest) = File e.name (leaf_of e) (forest_of rest)
forest_of (Folder e inner rest) = FolderOf e.name (forest_of inner) (forest_of rest)

-- ## The paths

-- what leads to a directory: each name with a slash behind it
abbrev pub front_text : List (List ℕ) → List ℕ
front_text p = flat_map (λ (c : List ℕ). c ++ 47 ∷ []) p

abbrev pub NoSlashes : List (List ℕ) → Type 0
NoSlashes p = AllByRecursion (λ (c : List ℕ). Contains c 47 → ⊥) p

pub slashes-push : (p : List (List ℕ)) (n : List ℕ) → NoSlashes p → (Contains n 47 → ⊥) → NoSlashes (p ++ n ∷ [])
slashes-push [] n h k = (k, tt)
slashes-push (c ∷ p) n h k = (h.0, slashes-push p n h.1 k)

pub front-push : (p : List (List ℕ)) (n : List ℕ) → (front_text p ++ n) ++ 47 ∷ [] ≡ front_text (p ++ n ∷ [])
front-push [] n = sym (append-nil (n ++ 47 ∷ []))
front-push (c ∷ p) n =
    ap (λ (t : List ℕ). t ++ 47 ∷ []) (append_assoc (c ++ 47 ∷ []) (front_text p) n)
    ∙ append_assoc (c ++ 47 ∷ []) (front_text p ++ n) (47 ∷ [])
    ∙ ap (λ (t : List ℕ). (c ++ 47 ∷ []) ++ t) (front-push p n)

pub path-parts : (p : List (List ℕ)) (n : List ℕ) → NoSlashes p → (Contains n 47 → ⊥) → components (front_text p ++ n) ≡ p ++ n ∷ []
path-parts [] n h k = components_none n k
path-parts (c ∷ p) n h k =
    ap components (append_assoc (c ++ 47 ∷ []) (front_text p) n ∙ append_assoc c (47 ∷ []) (front_text p ++ n))
    ∙ components_at c (front_text p ++ n) h.0
    ∙ ap (λ (q : List (List ℕ)). c ∷ q) (path-parts p n h.1 k)

-- ## The walk sets the paths of the folder

rows-append : (a b : List Row) (m : PathMap) → with_rows (a ++ b) m ≡ with_rows b (with_rows a m)
rows-append [] b m = refl
rows-append (r ∷ a) b m = rows-append a b (with_row r m)

pub other_mode : (mode other : ℕ) → mode ≢ other → (mode == other) ≡ false
other_mode mode other ne = by_test (mode == other) refl
  where
    by_test : (b : Bool) → (mode == other) ≡ b → (mode == other) ≡ false
    by_test true e = absurd (ne (eqb-true mode other e))
    by_test false e = e

-- no name under the tree has a slash
abbrev HasNames : Tree → Type 0
HasNames End = Unit {0}
HasNames (TreeLeaf e rest) = (Contains e.name 47 → ⊥) × HasNames rest
HasNames (Folder e inner rest) = (Contains e.name 47 → ⊥) × HasNames inner × HasNames rest

walk-sets : (bodies : Bodies) (p : List (List ℕ)) (t : Tree) (m : PathMap) → NoSlashes p → HasNames t → AreHeldUnder bodies t → with_rows (path_walk (front_text p) t) m ≡ sets p (flat (forest_of t)) m
walk-sets bodies p End m s n h = refl
walk-sets bodies p (TreeLeaf e rest) m s n h =
    let no_folder : (e.mode == 40000) ≡ false = other_mode e.mode 40000 h.0 in
    let here : with_row (record { path = front_text p ++ e.name; entry = e }) m ≡ set (p ++ e.name ∷ []) (leaf_of e) m =
    ap (λ (b : Bool). cond b m (set (components (front_text p ++ e.name)) (leaf_of e) m)) no_folder ∙ ap (λ (q : List (List ℕ)). set q (leaf_of e) m) (path-parts p e.name s n.0) in
    ap (with_rows (path_walk (front_text p) rest)) here ∙ walk-sets bodies p rest (set (p ++ e.name ∷ []) (leaf_of e) m) s n.1 h.1
walk-sets bodies p (Folder e inner rest) m s n h =
    let folder : (e.mode == 40000) ≡ true = ap (λ (k : ℕ). k == 40000) h.0 in
    let here : with_row (record { path = front_text p ++ e.name; entry = e }) m ≡ m =
    ap (λ (b : Bool). cond b m (set (components (front_text p ++ e.name)) (leaf_of e) m)) folder in
    let below : List Row = path_walk ((front_text p ++ e.name) ++ 47 ∷ []) inner in
    let behind : List Row = path_walk (front_text p) rest in
    let deeper : List (List ℕ) = p ++ e.name ∷ [] in
    let inside : with_rows below m ≡ sets deeper (flat (forest_of inner)) m =
    ap (λ (t : List ℕ). with_rows (path_walk t inner) m) (front-push p e.name) ∙ walk-sets bodies deeper inner m (slashes-push p e.name s n.0) n.1 h.2 in
    ap (with_rows (below ++ behind)) here
    ∙ rows-append below behind m
    ∙ ap (with_rows behind) inside
    ∙ walk-sets bodies p rest (sets deeper (flat (forest_of inner)) m) s n.2 h.3
    ∙ ap (sets p (flat (forest_of rest))) (sym (sets-under p e.name (flat (forest_of inner)) m))
    ∙ sym (sets-append p (under e.name (flat (forest_of inner))) (flat (forest_of rest)) m)

-- ## The folder is sound

leaf_mode : (mode : ℕ) → IsMode mode → mode ≢ 40000 → IsLeafMode mode
leaf_mode mode (inl e) ne = inl e
leaf_mode mode (inr (inl e)) ne = inr (inl e)
leaf_mode mode (inr (inr (inl e))) ne = inr (inr (inl e))
leaf_mode mode (inr (inr (inr (inl e)))) ne = absurd (ne e)
leaf_mode mode (inr (inr (inr (inr e)))) ne = inr (inr (inr e))

fresh_child : (n : List ℕ) (t : Tree) → AllByRecursion (λ (other : DirectoryEntry). n ≢ other.name) (entries_in t) → child_at n (forest_of t) ≡ Nothing
fresh_child n End h = refl
fresh_child n (TreeLeaf e rest) h = rw (not_same e.name n (λ z. h.0 (sym z))) (fresh_child n rest h.1)
fresh_child n (Folder e inner rest) h = rw (not_same e.name n (λ z. h.0 (sym z))) (fresh_child n rest h.1)

key_of_leaf : (e : DirectoryEntry) → e.mode ≢ 40000 → sort_key e ≡ e.name ++ []
key_of_leaf e ne = ap (λ (b : Bool). e.name ++ cond b (47 ∷ []) []) (other_mode e.mode 40000 ne)

key_of_folder : (e : DirectoryEntry) → e.mode ≡ 40000 → sort_key e ≡ e.name ++ 47 ∷ []
key_of_folder e is = ap (λ (k : ℕ). e.name ++ suffix_of k) is

follows : (bodies : Bodies) (e : DirectoryEntry) (t : Tree) → AreHeldUnder bodies t → AllByRecursion (λ (other : DirectoryEntry). IsBefore e other) (entries_in t) → Follows (sort_key e) (forest_of t)
follows bodies e End h b = tt
follows bodies e (TreeLeaf f rest) h b = subst (λ (k : List ℕ). is_before (sort_key e) k ≡ true) (key_of_leaf f h.0) (ap is_lt b.0)
follows bodies e (Folder f inner rest) h b = subst (λ (k : List ℕ). is_before (sort_key e) k ≡ true) (key_of_folder f h.0) (ap is_lt b.0)

some-forest : (t : Tree) → entries_in t ≢ [] → forest_of t ≢ Bare
some-forest End ne e = ne refl
some-forest (TreeLeaf f rest) ne e = cc
some-forest (Folder f inner rest) ne e = cc

pub sound-forest : (bodies : Bodies) (t : Tree) → AreEntries (entries_in t) → AreHeldUnder bodies t → HasNoEmptyFolder t → IsSound (forest_of t)
sound-forest bodies End es h full = tt
sound-forest bodies (TreeLeaf e rest) es h full = (
  es.0.name,
  record { mode = leaf_mode e.mode es.0.mode h.0; id = es.0.id },
  fresh_child e.name rest es.1,
  subst (λ (k : List ℕ). Follows k (forest_of rest)) (key_of_leaf e h.0) (follows bodies e rest h.1 es.2),
  sound-forest bodies rest es.3 h.1 full,
)
sound-forest bodies (Folder e inner rest) es h full = (
  es.0.name,
  some-forest inner full.0,
  sound-forest bodies inner h.1.is.good h.2 full.1,
  fresh_child e.name rest es.1,
  subst (λ (k : List ℕ). Follows k (forest_of rest)) (key_of_folder e h.0) (follows bodies e rest h.3 es.2),
  sound-forest bodies rest es.3 h.3 full.2,
)

has-names : (bodies : Bodies) (t : Tree) → AreEntries (entries_in t) → AreHeldUnder bodies t → HasNames t
has-names bodies End es h = tt
has-names bodies (TreeLeaf e rest) es h = (es.0.name.no_slash, has-names bodies rest es.3 h.1)
has-names bodies (Folder e inner rest) es h = (es.0.name.no_slash, has-names bodies inner h.1.is.good h.2, has-names bodies rest es.3 h.3)

-- ## Its directory

abbrev pub AreNamed : (Kind → List ℕ → List ℕ) → Bodies → Type 0
AreNamed id bodies = (n : Name) (body : List ℕ) → body_of bodies n ≡ Some body → n.id ≡ id n.kind body

entry_is : (e : DirectoryEntry) (mode : ℕ) (i : List ℕ) → e.mode ≡ mode → e.id ≡ i → e ≡ record { mode = mode; name = e.name; id = i }
entry_is e mode i p q =
    let one : e ≡ record { mode = mode; name = e.name; id = e.id } = ap (λ (k : ℕ). let d : DirectoryEntry = record { mode = k; name = e.name; id = e.id } in d) p in
    let two : record { mode = mode; name = e.name; id = e.id } ≡ record { mode = mode; name = e.name; id = i } = ap (λ (k : List ℕ). let d : DirectoryEntry = record { mode = mode; name = e.name; id = k } in d) q in
    one ∙ two

pub held_id : (id : Kind → List ℕ → List ℕ) (bodies : Bodies) → AreNamed id bodies → (i : List ℕ) (es : List DirectoryEntry) → HoldsDirectory bodies (directory_name i) es → i ≡ directory_id id es
held_id id bodies named i es h = named (directory_name i) h.body h.held ∙ ap (id Directory) h.is.text

pub forest-directory : (id : Kind → List ℕ → List ℕ) (bodies : Bodies) → AreNamed id bodies → (t : Tree) → AreHeldUnder bodies t → directory (directory_id id) (forest_of t) ≡ entries_in t
forest-directory id bodies named End h = refl
forest-directory id bodies named (TreeLeaf e rest) h = ap (λ (es : List DirectoryEntry). e ∷ es) (forest-directory id bodies named rest h.1)
forest-directory id bodies named (Folder e inner rest) h =
    let inside : directory_id id (directory (directory_id id) (forest_of inner)) ≡ directory_id id (entries_in inner) = ap (directory_id id) (forest-directory id bodies named inner h.2) in
    let own : e ≡ record { mode = 40000; name = e.name; id = directory_id id (directory (directory_id id) (forest_of inner)) } =
    entry_is e 40000 (directory_id id (directory (directory_id id) (forest_of inner))) h.0 (held_id id bodies named e.id (entries_in inner) h.1 ∙ sym inside) in
    ap (λ (d : DirectoryEntry). d ∷ directory (directory_id id) (forest_of rest)) (sym own) ∙ ap (λ (es : List DirectoryEntry). e ∷ es) (forest-directory id bodies named rest h.3)

-- ## Together

pub walk-map : (bodies : Bodies) (name : Name) (t : Tree) → IsTreeOf bodies name t → HasNoEmptyFolder t → with_rows (path_walk [] t) [] ≡ flat (forest_of t)
walk-map bodies name t is full =
    let sound : IsSound (forest_of t) = sound-forest bodies t is.top.is.good is.under full in
    walk-sets bodies [] t [] tt (has-names bodies t is.top.is.good is.under) is.under ∙ sets-flat (forest_of t) sound

pub made_again : (id : Kind → List ℕ → List ℕ) (bodies : Bodies) → AreNamed id bodies → (name : Name) (t : Tree) → IsTreeOf bodies name t → HasNoEmptyFolder t → directory_of id (with_rows (path_walk [] t) []) ≡ entries_in t
made_again id bodies named name t is full =
    let sound : IsSound (forest_of t) = sound-forest bodies t is.top.is.good is.under full in
    ap (directory_of id) (walk-map bodies name t is full) ∙ directory-of id (forest_of t) sound ∙ forest-directory id bodies named t is.under
