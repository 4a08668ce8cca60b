-- A directory of which all is held has one tree.
use Rattle.std.proofs.Common.{◌≡◌, inl, inr, ℕ, zero, suc, ◌<◌, ◌==◌, Bool, true, false, Option, Some, None, List, [], ◌∷◌, ◌++◌, length, refl, sym, ap, ◌∙◌, subst, arith, append_assoc, length-append}
use Rattle.std.specs.Prelude.{Contains}
use Rattle.std.specs.List.{filter_map, cons_option}
use Rattle.std.proofs.lemmas.Bool.{eqb-true, eqb-false}
use Rattle.std.proofs.lemmas.List.Elements.{Contains-append_right}
use Rattle.swh_base.specs.declared.kind.Kind.{Kind}
use Rattle.swh_base.specs.declared.kind.Kind.TheVariants.{Directory}
use Rattle.swh_base.specs.declared.name.Name.{Name}
use Rattle.swh_base.specs.Directory.{DirectoryEntry, IsDirectory, child_of}
use Rattle.swh_base.specs.Manifest.{AreChildren}
use Rattle.swh_base.proofs.DirectoryLemmas.{one_listing_lem}
use Rattle.swh_base.specs.Reach.{IsChildIn}
use Rattle.swh_base.proofs.Elementary.{none_in}
use Rattle.swh_model.specs.Archive.{Bodies, IsGraphOf}
use Rattle.swh_graph.specs.Holding.{HoldsDirectory}
use Rattle.swh_graph.specs.Path.{directory_name}
use Rattle.swh_postorder.proofs.Preceded.{Cut, cut_at, held_in}
use Rattle.swh_postorder.proofs.Trips.{first_in, later_in, in_cases}
use Rattle.swh_pathwalk.specs.Tree.{Tree, End, Leaf, Folder, entries_in, AreHeldUnder, IsTreeOf, Row, path_walk, IsPathWalk}
use Rattle.swh_pathwalk.proofs.Weights.{kids_are}
use Rattle.swh_pathwalk.specs.Held.{IsHeldOrder}

same_body : (a b : List ℕ) → Some a ≡ Some b → a ≡ b
same_body a b e = cc

no_entry : (e : DirectoryEntry) (es : List DirectoryEntry) → e ∷ es ≡ [] → ⊥
no_entry e es is = cc

head_entry : (d e : DirectoryEntry) (ds es : List DirectoryEntry) → d ∷ ds ≡ e ∷ es → d ≡ e
head_entry d e ds es is = cc

tail_entries : (d e : DirectoryEntry) (ds es : List DirectoryEntry) → d ∷ ds ≡ e ∷ es → ds ≡ es
tail_entries d e ds es is = cc

mode_of : {d e : DirectoryEntry} → d ≡ e → d.mode ≡ e.mode
mode_of same = ap (λ (x : DirectoryEntry). x.mode) same

-- what an element is mapped to is among what all are mapped to
more_in : {Y : Type 0} (o : Option Y) (ys : List Y) (y : Y) → Contains ys y → Contains (cons_option o ys) y
more_in None ys y there = there
more_in (Some z) ys y there = later_in z ys y there

pub mapped_in : {X Y : Type 0} (f : X → Option Y) (xs : List X) (x : X) (y : Y) → Contains xs x → f x ≡ Some y → Contains (filter_map f xs) y
mapped_in f [] x y there is = absurd (none_in x there)
mapped_in {X} {Y} f (z ∷ zs) x y there is =
    elim (in_cases z zs x there) [
      | inl same ↦ subst (λ (o : Option Y). Contains (cons_option o (filter_map f zs)) y) (sym (ap f same ∙ is)) (first_in y (filter_map f zs))
      | inr later ↦ more_in (f z) (filter_map f zs) y (mapped_in f zs x y later is)
    ]

folder_is : (e : DirectoryEntry) → e.mode ≡ 40000 → child_of e ≡ Some (directory_name e.id)
folder_is e folder = ap (λ (m : ℕ). child_of (record { mode = m; name = e.name; id = e.id })) folder

module _ (bodies : Bodies) where
  pub same_listing : (name : Name) (es fs : List DirectoryEntry) → HoldsDirectory bodies name es → HoldsDirectory bodies name fs → es ≡ fs
  same_listing name es fs a b =
      one_listing_lem a.body es fs a.is (subst (λ (body : List ℕ). IsDirectory body fs) (same_body b.body a.body (sym b.held ∙ a.held)) b.is)

  one_tree : (a b : Tree) → entries_in a ≡ entries_in b → AreHeldUnder bodies a → AreHeldUnder bodies b → a ≡ b
  one_tree End End same h g = refl
  one_tree End (Leaf e t) same h g = absurd (no_entry e (entries_in t) (sym same))
  one_tree End (Folder e i t) same h g = absurd (no_entry e (entries_in t) (sym same))
  one_tree (Leaf d s) End same h g = absurd (no_entry d (entries_in s) same)
  one_tree (Leaf d s) (Leaf e t) same (_, h) (_, g) =
      let first = head_entry d e (entries_in s) (entries_in t) same in
      let rest = one_tree s t (tail_entries d e (entries_in s) (entries_in t) same) h g in
      cc
  one_tree (Leaf d s) (Folder e i t) same (leaf, h) (folder, _, _, g) =
      absurd (leaf (mode_of (head_entry d e (entries_in s) (entries_in t) same) ∙ folder))
  one_tree (Folder d j s) End same h g = absurd (no_entry d (entries_in s) same)
  one_tree (Folder d j s) (Leaf e t) same (folder, _, _, h) (leaf, g) =
      absurd (leaf (sym (mode_of (head_entry d e (entries_in s) (entries_in t) same)) ∙ folder))
  one_tree (Folder d j s) (Folder e i t) same (_, its, under, h) (_, their, below, g) =
      let first = head_entry d e (entries_in s) (entries_in t) same in
      let their_at : HoldsDirectory bodies (directory_name d.id) (entries_in i) = subst (λ (x : DirectoryEntry). HoldsDirectory bodies (directory_name x.id) (entries_in i)) (sym first) their in
      let inner = one_tree j i (same_listing (directory_name d.id) (entries_in j) (entries_in i) its their_at) under below in
      let rest = one_tree s t (tail_entries d e (entries_in s) (entries_in t) same) h g in
      cc

  pub one_walk : (name : Name) (rows others : List Row) → IsPathWalk bodies name rows → IsPathWalk bodies name others → rows ≡ others
  one_walk name rows others a b =
      a.rows_are ∙ ap (λ (t : Tree). path_walk [] t) (one_tree a.tree b.tree (same_listing name (entries_in a.tree) (entries_in b.tree) a.is.top b.is.top) a.is.under b.is.under) ∙ sym b.rows_are

  -- a tree over these entries
  pub record TreeOver (es : List DirectoryEntry) : Type 0 where
    pub tree : Tree
    pub are : entries_in tree ≡ es
    pub under : AreHeldUnder bodies tree

  abbrev EachHasTree : List DirectoryEntry → Type 0
  EachHasTree es = (e : DirectoryEntry) → Contains es e → e.mode ≡ 40000 → (tree : Tree) × IsTreeOf bodies (directory_name e.id) tree

  over_by : (e : DirectoryEntry) (es : List DirectoryEntry) (folder : Bool) → (e.mode == 40000) ≡ folder → (e.mode ≡ 40000 → (tree : Tree) × IsTreeOf bodies (directory_name e.id) tree) → TreeOver es → TreeOver (e ∷ es)
  over_by e es true is inner rest =
      let has = inner (eqb-true e.mode 40000 is) in
      record {
        tree = Folder e has.0 rest.tree;
        are = ap (λ (l : List DirectoryEntry). e ∷ l) rest.are;
        under = (eqb-true e.mode 40000 is, has.1.top, has.1.under, rest.under);
      }
  over_by e es false is inner rest = record {
    tree = Leaf e rest.tree;
    are = ap (λ (l : List DirectoryEntry). e ∷ l) rest.are;
    under = (eqb-false e.mode 40000 is, rest.under);
  }

  tree_over : (es : List DirectoryEntry) → EachHasTree es → TreeOver es
  tree_over [] each = record { tree = End; are = refl; under = tt }
  tree_over (e ∷ es) each =
      over_by e es (e.mode == 40000) refl (each e (first_in e es)) (tree_over es (λ d there folder. each d (later_in e es d there) folder))

  module _ (children_of : Name → Option (List Name)) (graph : IsGraphOf bodies children_of) (order : List Name) (is : IsHeldOrder children_of order) where
    pub listing_in : (id : List ℕ) → Contains order (directory_name id) → (entries : List DirectoryEntry) × HoldsDirectory bodies (directory_name id) entries
    listing_in id there =
        let kids = held_in children_of order is.some (directory_name id) there in
        let has = graph.held (directory_name id) kids.0 kids.1 in
        let are : AreChildren Directory has.0 kids.0 = has.2 in
        (are.entries, record { body = has.0; held = has.1; is = are.directory })

    -- a folder of a directory in the order is a child of it
    pub folder_kid : (id : List ℕ) (entries : List DirectoryEntry) (e : DirectoryEntry) → HoldsDirectory bodies (directory_name id) entries → Contains entries e → e.mode ≡ 40000 → IsChildIn children_of (directory_name id) (directory_name e.id)
    folder_kid id entries e holds there folder = record {
      kids = filter_map child_of entries;
      held = kids_are bodies children_of graph id entries holds;
      one_of = mapped_in child_of entries e (directory_name e.id) there (folder_is e folder);
    }

    placed_in : (before : List Name) (name : Name) (behind : List Name) → order ≡ before ++ name ∷ behind → Contains order name
    placed_in before name behind cut = subst (λ (l : List Name). Contains l name) (sym cut) (Contains-append_right before (name ∷ behind) name (first_in name behind))

    tree_by : (id : List ℕ) (entries : List DirectoryEntry) → HoldsDirectory bodies (directory_name id) entries → TreeOver entries → (tree : Tree) × IsTreeOf bodies (directory_name id) tree
    tree_by id entries holds over = (over.tree, record { top = subst (HoldsDirectory bodies (directory_name id)) (sym over.are) holds; under = over.under })

    -- the directories that stand before this place of the order have trees
    abbrev TreesBefore : ℕ → Type 0
    TreesBefore depth =
        (before : List Name) (id : List ℕ) (behind : List Name) → order ≡ before ++ directory_name id ∷ behind → length before < depth → (tree : Tree) × IsTreeOf bodies (directory_name id) tree

    tree_inside : (depth : ℕ) → TreesBefore depth → (before : List Name) (name : Name) (behind : List Name) → order ≡ before ++ name ∷ behind → length before < suc depth → (id : List ℕ) → Cut before (directory_name id)
        → (tree : Tree) × IsTreeOf bodies (directory_name id) tree
    tree_inside depth known before name behind cut less id c =
        known c.before id (c.behind ++ name ∷ behind) (cut ∙ ap (λ (l : List Name). l ++ name ∷ behind) c.cut ∙ append_assoc c.before (directory_name id ∷ c.behind) (name ∷ behind))
        (let long = ap (λ (l : List Name). length l) c.cut in omega (arith, less, long, length-append c.before (directory_name id ∷ c.behind)))

    tree_next : (depth : ℕ) → TreesBefore depth → TreesBefore (suc depth)
    tree_next depth known before id behind cut less =
        let holds = listing_in id (placed_in before (directory_name id) behind cut) in
        tree_by id holds.0 holds.1
        (tree_over holds.0 (λ e in_it folder. tree_inside depth known before (directory_name id) behind cut less e.id
        (cut_at before (directory_name e.id) (is.preceded before (directory_name id) behind cut (directory_name e.id) (folder_kid id holds.0 e holds.1 in_it folder)))))

    tree_at : (depth : ℕ) → TreesBefore depth
    tree_at zero before id behind cut less = absurd (omega (arith, less))
    tree_at (suc depth) before id behind cut less = tree_next depth (tree_at depth) before id behind cut less

    pub walk_of : (id : List ℕ) → Contains order (directory_name id) → (rows : List Row) × IsPathWalk bodies (directory_name id) rows
    walk_of id there =
        let c = cut_at order (directory_name id) there in
        let has = tree_at (suc (length c.before)) c.before id c.behind c.cut (omega arith) in
        (path_walk [] has.0, record { tree = has.0; is = has.1; rows_are = refl })

    by_kind : (kind : Kind) (id : List ℕ) → kind ≡ Directory → Contains order (record { kind = kind; id = id }) → (rows : List Row) × IsPathWalk bodies (record { kind = kind; id = id }) rows
    by_kind kind id folder there =
        subst (λ (k : Kind). Contains order (record { kind = k; id = id }) → (rows : List Row) × IsPathWalk bodies (record { kind = k; id = id }) rows) (sym folder) (walk_of id) there

    pub some_walk : (name : Name) → Contains order name → name.kind ≡ Directory → (rows : List Row) × IsPathWalk bodies name rows
    some_walk name there folder = by_kind name.kind name.id folder there
