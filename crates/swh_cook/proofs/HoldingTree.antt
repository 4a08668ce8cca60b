-- Some tree holds what was made of a directory: each node's file or folder stands at its path.
use Rattle.std.proofs.Common.{◌≡◌, ◌≢◌, inl, inr, ℕ, zero, suc, ◌==◌, Bool, true, false, cond, Some, List, [], ◌∷◌, length, map, get_or, Contains, refl, sym, ap, ◌∙◌, subst, arith}
use Rattle.std.specs.Prelude.{AllPairs}
use Rattle.std.specs.List.{AllByRecursion}
use Rattle.std.specs.Ordering.{nat_cmp, is_eq}
use Rattle.std.specs.Cmp.Lexicographic.{slice_cmp, nat_list_cmp_total}
use Rattle.std.specs.FinMap as map_of
use Rattle.std.specs.Str.{bytes_eq}
use Rattle.std.proofs.lemmas.Map.Text.{is_eq-slice_cmp}
use Rattle.std.proofs.lemmas.Bool.{eqb-true}
use Rattle.swh_base.specs.Directory.{DirectoryEntry, AreEntries}
use Rattle.swh_base.specs.declared.name.Name.{Name}
use Rattle.swh_dedup.proofs.Elements.{first_or_later, first_is, later_is, none_is, each_is}
use Rattle.swh_model.specs.Archive.{Bodies}
use Rattle.swh_outside.specs.Folder.{FolderEntry, Standing, FileOf, FolderOf, Tree as Held, nothing, file_bytes, folder_entries}
use Rattle.swh_pathwalk.specs.Tree.{Tree, entries_in, AreHeldUnder}
use Rattle.swh_dirload.proofs.Ascending.{IsUp}
use Rattle.swh_dircook.specs.Cook.{IsFolderOf}
use Rattle.swh_dircook.specs.Made.{Made, FolderMade, FileMade, folder_made}
use Rattle.swh_cook.specs.FolderBack.{place_in, HoldsMade, ListsMade}
use Rattle.swh_cook.proofs.Listed.{shown, shown_fresh, fresh_once}
use Rattle.swh_cook.proofs.Nodes.{Node, nodes, row_of, walk_rows, IsGood, AreApart}
use Rattle.swh_cook.proofs.Placed.{is_same, is_other}
use Rattle.swh_cook.proofs.Standing.{IsDir, dir_entries, node_some, apart}
use Rattle.swh_cook.proofs.Things.{nodes_all, things, bytes_of, file_from, folder_from, made_shown, shown_made}
use Rattle.swh_cook.proofs.Whole.{good_tree}

-- ---- trees

abbrev with_standing : Held → List ℕ → Standing → Held
with_standing tree path standing = map_of.insert tree path standing

stands_there : (tree : Held) (path : List ℕ) (standing : Standing) → map_of.get (with_standing tree path standing) path ≡ Some standing
stands_there tree path standing =
    map_of.get-insert nat_list_cmp_total tree path standing path
    ∙ ap (λ (b : Bool). cond b (Some standing) (map_of.get tree path)) (is_eq-slice_cmp path path ∙ is_same path path refl)

stands_still : (tree : Held) (at path : List ℕ) (standing : Standing) → (path ≡ at → ⊥) → map_of.get (with_standing tree at standing) path ≡ map_of.get tree path
stands_still tree at path standing other =
    map_of.get-insert nat_list_cmp_total tree at standing path
    ∙ ap (λ (b : Bool). cond b (Some standing) (map_of.get tree path)) (is_eq-slice_cmp path at ∙ is_other path at other)

not_project : (n : ℕ) → n ≡ 40000 → (n == 160000) ≡ false
not_project n is = ap (λ (k : ℕ). k == 160000) is

module _ (bodies : Bodies) (tree : Tree) (good : IsGood tree) (entries : AreEntries (entries_in tree)) (held : AreHeldUnder bodies tree) (out : List ℕ) where
  abbrev N : List Node
  N = nodes_all bodies tree good entries held out

  abbrev made : List Made
  made = things bodies tree good entries held out

  abbrev bytes_at_node : Node → List ℕ
  bytes_at_node n = bytes_of bodies tree good entries held out n

  -- what stands for a node that is no revision of another project
  abbrev standing_of : Node → Standing
  standing_of n = cond (n.entry.mode == 40000) (FolderOf (shown (entries_in n.inner))) (FileOf (bytes_at_node n))

  abbrev top : Standing
  top = FolderOf (shown (entries_in tree))

  abbrev with_node : Bool → Node → Held → Held
  with_node project n t = cond project t (with_standing t n.path (standing_of n))

  -- what stands for these nodes, in the folder itself
  abbrev tree_of : List Node → Held
  tree_of [] = with_standing nothing [] top
  tree_of (n ∷ ns) = with_node (n.entry.mode == 160000) n (tree_of ns)

  node_there : (project : Bool) (n : Node) (t : Held) → project ≡ false → map_of.get (with_node project n t) n.path ≡ Some (standing_of n)
  node_there true n t is = absurd cc
  node_there false n t is = stands_there t n.path (standing_of n)

  others_stand : (project : Bool) (n : Node) (t : Held) (path : List ℕ) → (path ≡ n.path → ⊥) → map_of.get (with_node project n t) path ≡ map_of.get t path
  others_stand true n t path other = refl
  others_stand false n t path other = stands_still t n.path path (standing_of n) other

  each_stands : (ns : List Node) → IsUp AreApart ns → (n : Node) → Contains ns n → (n.entry.mode == 160000) ≡ false → map_of.get (tree_of ns) n.path ≡ Some (standing_of n)
  each_stands [] up n there project = absurd (none_is n there)
  each_stands (m ∷ ns) (first, up) n there project =
      elim (first_or_later m ns n there) [
        | inl same ↦
            subst (λ (x : Node). (x.entry.mode == 160000) ≡ false → map_of.get (tree_of (m ∷ ns)) x.path ≡ Some (standing_of x)) same
            (λ none. node_there (m.entry.mode == 160000) m (tree_of ns) none) project
        | inr later ↦
            others_stand (m.entry.mode == 160000) m (tree_of ns) n.path (λ is. each_is (AreApart m) ns n first later (sym is))
            ∙ each_stands ns up n later project
      ]

  top_stands : (ns : List Node) → ((n : Node) → Contains ns n → n.path ≡ [] → ⊥) → map_of.get (tree_of ns) [] ≡ Some top
  top_stands [] some = stands_there nothing [] top
  top_stands (m ∷ ns) some =
      others_stand (m.entry.mode == 160000) m (tree_of ns) [] (λ is. some m (first_is m ns) (sym is))
      ∙ top_stands ns (λ n there. some n (later_is m ns n there))

  abbrev whole : Held
  whole = tree_of N

  node_stands : (n : Node) → Contains N n → (n.entry.mode == 160000) ≡ false → map_of.get whole n.path ≡ Some (standing_of n)
  node_stands n there project = each_stands N (apart bodies tree good entries held) n there project

  lists_made : (dir : List ℕ) (es : List DirectoryEntry) → IsDir bodies tree good entries held dir es → map_of.get whole dir ≡ Some (FolderOf (shown es)) → ListsMade out made whole dir
  lists_made dir es is_dir stands = record {
    entries = shown es;
    are = ap folder_entries stands;
    once = fresh_once (shown es) (shown_fresh es (dir_entries bodies tree good entries held dir es is_dir));
    all = λ f. (
      λ there. made_shown bodies tree good entries held out dir es is_dir f there,
      λ is. shown_made bodies tree good entries held out dir es is_dir f.name f.what is.0 is.1,
    );
  }

  folder_lists : (path : List ℕ) → Contains made (FolderMade (place_in out path)) → ListsMade out made whole path
  folder_lists [] there = lists_made [] (entries_in tree) (inl (refl, refl)) (top_stands N (λ n in_all none. node_some bodies tree good entries held n in_all none))
  folder_lists (c ∷ path) there =
      let n = folder_from bodies tree good entries held out (c ∷ path) (λ e. absurd cc) there in
      let folder = eqb-true n.0.entry.mode 40000 n.2 in
      let stands : map_of.get whole n.0.path ≡ Some (FolderOf (shown (entries_in n.0.inner))) =
      node_stands n.0 n.1 (not_project n.0.entry.mode folder) ∙ ap (λ (b : Bool). Some (cond b (FolderOf (shown (entries_in n.0.inner))) (FileOf (bytes_at_node n.0)))) n.2 in
      subst (ListsMade out made whole) n.3 (lists_made n.0.path (entries_in n.0.inner) (inr (n.0, n.1, folder, refl, refl)) stands)

  holds : HoldsMade out made whole
  holds = record {
    files = λ path bytes there.
        let n = file_from bodies tree good entries held out path bytes there in
        let stands : map_of.get whole n.0.path ≡ Some (FileOf (bytes_at_node n.0)) =
        node_stands n.0 n.1 n.3 ∙ ap (λ (b : Bool). Some (cond b (FolderOf (shown (entries_in n.0.inner))) (FileOf (bytes_at_node n.0)))) n.2 in
        ap (λ (p : List ℕ). file_bytes (map_of.get whole p)) (sym n.4) ∙ ap file_bytes stands ∙ ap (λ (b : List ℕ). Some b) n.5;
    folders = λ path there. folder_lists path there;
  }

  pub some_tree : (t : Held) × HoldsMade out made t
  some_tree = (whole, holds)

pub tree_there : (bodies : Bodies) (root : Name) (out : List ℕ) (all_made : List Made) → IsFolderOf bodies root out all_made → (t : Held) × HoldsMade out all_made t
tree_there bodies root out all_made folder =
    let tree = folder.walk.tree in
    let top = folder.walk.is.top in
    let under = folder.walk.is.under in
    let good = good_tree bodies tree top.is.good under in
    let rows_are = folder.walk.rows_are ∙ walk_rows tree good in
    subst (λ (m : List Made). (t : Held) × HoldsMade out m t) (sym (folder.are ∙ ap (folder_made bodies out) rows_are))
    (some_tree bodies tree good top.is.good under out)
