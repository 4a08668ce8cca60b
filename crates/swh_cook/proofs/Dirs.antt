-- The directories of a folder in which what was made of a directory stands, once the listing is taken.
use Rattle.std.proofs.Common.{◌≡◌, inl, inr, ℕ, ◌==◌, Bool, true, false, cond, Option, Some, None, List, [], ◌∷◌, ◌++◌, map, Contains, refl, sym, ap, ◌∙◌, subst}
use Rattle.std.specs.Str.{bytes_eq}
use Rattle.std.proofs.lemmas.Bool.{eqb-true}
use Rattle.std.proofs.lemmas.List.{append-nil}
use Rattle.std.proofs.lemmas.Slice.Eq.{bytes_eq-Decides}
use Rattle.swh_base.specs.declared.kind.Kind.{Kind}
use Rattle.swh_base.specs.declared.kind.Kind.TheVariants.{Directory}
use Rattle.swh_base.specs.Directory.{DirectoryEntry, IsMode, AreEntries}
use Rattle.swh_dedup.proofs.Elements.{first_or_later, first_is, later_is, none_is, each_is}
use Rattle.swh_model.specs.Archive.{Bodies}
use Rattle.swh_graph.specs.Path.{directory_name}
use Rattle.swh_pathwalk.specs.Tree.{Tree, entries_in, AreHeldUnder}
use Rattle.swh_dirmade.specs.Paths.{child}
use Rattle.swh_dirmade.proofs.Paths.{child_some}
use Rattle.swh_dirmade.specs.Spots.{Places}
use Rattle.swh_dirmade.specs.Directories.{directory_id, entry_of, entry_for, IsEntryIn, AreDirectories}
use Rattle.swh_dirmade.specs.declared.member.Member.{Member}
use Rattle.swh_dirmade.specs.declared.member.Member.TheVariants as stands
use Rattle.swh_dirload.proofs.Ascending.{IsUp}
use Rattle.swh_cook.specs.FolderBack.{AreGoodBodies}
use Rattle.swh_cook.proofs.Nodes.{Node, node_at, IsGood, AreApart}
use Rattle.swh_cook.proofs.Standing.{all, IsDir, held_node, dir_entries, dir_entry, node_entry, node_some, apart, entry_node, node_in}
use Rattle.swh_cook.proofs.Placed.{final_of, final_pair, Pair, look_up, with_top, look_up_at, from_look_up, mixed_up, PairApart}

-- the entries of the first of these nodes that has the path
abbrev pub entries_at : List Node → List ℕ → List DirectoryEntry
entries_at [] path = []
entries_at (n ∷ ns) path = cond (bytes_eq path n.path) (entries_in n.inner) (entries_at ns path)

not_true : (b : Bool) → (b ≡ true → ⊥) → b ≡ false
not_true true f = absurd (f refl)
not_true false f = refl

is_other : (a b : List ℕ) → (a ≡ b → ⊥) → bytes_eq a b ≡ false
is_other a b n = not_true (bytes_eq a b) (λ t. n ((bytes_eq-Decides a b).0 t))

entries_of : (ns : List Node) → IsUp AreApart ns → (n : Node) → Contains ns n → entries_at ns n.path ≡ entries_in n.inner
entries_of [] up n there = absurd (none_is n there)
entries_of (m ∷ ns) (first, up) n there =
    elim (first_or_later m ns n there) [
      | inl same ↦
          ap (λ (b : Bool). cond b (entries_in m.inner) (entries_at ns n.path)) ((bytes_eq-Decides n.path m.path).1 (sym (ap (λ (x : Node). x.path) same))) ∙ ap (λ (x : Node). entries_in x.inner) same
      | inr later ↦
          ap (λ (b : Bool). cond b (entries_in m.inner) (entries_at ns n.path)) (is_other n.path m.path (λ e. each_is (AreApart m) ns n first later (sym e))) ∙ entries_of ns up n later
    ]

from_pairs : (ns : List Node) (p : Pair) → Contains (map final_pair ns) p → (n : Node) × Contains ns n × (final_pair n ≡ p)
from_pairs [] p there = absurd (none_is p there)
from_pairs (m ∷ ms) p there =
    elim (first_or_later (final_pair m) (map final_pair ms) p there) [
      | inl same ↦ (m, first_is m ms, same)
      | inr later ↦ let h = from_pairs ms p later in (h.0, later_is m ms h.0 h.1, h.2)
    ]

in_pairs : (ns : List Node) (n : Node) → Contains ns n → Contains (map final_pair ns) (final_pair n)
in_pairs [] n there = absurd (none_is n there)
in_pairs (m ∷ ms) n there =
    elim (first_or_later m ms n there) [
      | inl same ↦ subst (λ (x : Node). Contains (map final_pair (m ∷ ms)) (final_pair x)) same (first_is (final_pair m) (map final_pair ms))
      | inr later ↦ later_is (final_pair m) (map final_pair ms) (final_pair n) (in_pairs ms n later)
    ]

folder_by : (p f : Bool) (e : DirectoryEntry) → cond p (stands.Project e.id) (cond f stands.Folder (stands.File e.mode e.id)) ≡ stands.Folder → f ≡ true
folder_by true f e is = absurd cc
folder_by false true e is = refl
folder_by false false e is = absurd cc

some_place : (a b : Member) → Some a ≡ Some b → a ≡ b
some_place a b e = cc

module _ (id : Kind → List ℕ → List ℕ) (bodies : Bodies) (are : AreGoodBodies id bodies) (tree : Tree) (good : IsGood tree) (top : AreEntries (entries_in tree)) (held : AreHeldUnder bodies tree) where
  abbrev pub ns : List Node
  ns = all bodies tree good top held

  abbrev pub places : Places
  places = with_top (map final_pair ns)

  abbrev pub entries : List ℕ → List DirectoryEntry
  entries path = cond (bytes_eq path []) (entries_in tree) (entries_at ns path)

  up : IsUp AreApart ns
  up = apart bodies tree good top held

  pairs_up : IsUp PairApart (map final_pair ns)
  pairs_up = subst (IsUp PairApart) (append_none (map final_pair ns)) (mixed_up ns [] (subst (IsUp AreApart) (sym (append_none ns)) up))
    where
      append_none : {X : Type 0} (xs : List X) → xs ++ [] ≡ xs
      append_none xs = append-nil xs

  pub dir_is : (dir : List ℕ) (es : List DirectoryEntry) → IsDir bodies tree good top held dir es → entries dir ≡ es
  dir_is dir es (inl (at, is)) = ap entries at ∙ sym is
  dir_is dir es (inr (m, there, folder, at, is)) =
      ap entries at
      ∙ ap (λ (b : Bool). cond b (entries_in tree) (entries_at ns m.path)) (is_other m.path [] (node_some bodies tree good top held m there))
      ∙ entries_of ns up m there ∙ sym is

  place_at : (n : Node) → Contains ns n → places n.path ≡ Some (final_of n.entry)
  place_at n there =
      ap (λ (b : Bool). cond b (Some stands.Folder) (look_up (map final_pair ns) n.path)) (is_other n.path [] (node_some bodies tree good top held n there))
      ∙ look_up_at (map final_pair ns) pairs_up (final_pair n) (in_pairs ns n there)

  place_from : (path : List ℕ) (place : Member) → (path ≡ [] → ⊥) → places path ≡ Some place → (n : Node) × Contains ns n × (n.path ≡ path) × (final_of n.entry ≡ place)
  place_from path place some is =
      let found = from_look_up (map final_pair ns) path place (sym (ap (λ (b : Bool). cond b (Some stands.Folder) (look_up (map final_pair ns) path)) (is_other path [] some)) ∙ is) in
      let n = from_pairs ns found.0 found.1 in
      (n.0, n.1, ap (λ (p : Pair). p.0) n.2 ∙ found.2, some_place (final_of n.0.entry) place (ap (λ (p : Pair). p.1) n.2 ∙ found.3))

  -- where a folder stands is a directory
  pub folder_dir : (dir : List ℕ) → places dir ≡ Some stands.Folder → IsDir bodies tree good top held dir (entries dir)
  folder_dir dir is = by (bytes_eq dir []) refl
    where
      by : (b : Bool) → bytes_eq dir [] ≡ b → IsDir bodies tree good top held dir (entries dir)
      by true e = let at = (bytes_eq-Decides dir []).0 e in inl (at, ap entries at)
      by false e =
          let n = place_from dir stands.Folder (λ at. let t : true ≡ false = sym ((bytes_eq-Decides dir []).1 at) ∙ e in cc) is in
          let folder = eqb-true n.0.entry.mode 40000 (folder_by (n.0.entry.mode == 160000) (n.0.entry.mode == 40000) n.0.entry n.3) in
          let is_dir : IsDir bodies tree good top held dir (entries_in n.0.inner) = inr (n.0, n.1, folder, sym n.2, refl) in
          inr (n.0, n.1, folder, sym n.2, dir_is dir (entries_in n.0.inner) is_dir)

  -- the id of a folder's directory
  inner_id : (n : Node) → Contains ns n → n.entry.mode ≡ 40000 → directory_id id (entries_in n.inner) ≡ n.entry.id
  inner_id n there folder =
      let h = (held_node bodies tree [] good held n there folder).holds in
      ap (λ (b : List ℕ). id Directory b) (sym h.is.text) ∙ sym (are.named (directory_name n.entry.id) h.body h.held)

  entry_by : (mode : ℕ) (name below_id : List ℕ) (entry_id : List ℕ) (below : List DirectoryEntry) → IsMode mode → (mode ≡ 40000 → directory_id id below ≡ entry_id)
      → entry_of id name below (let e : DirectoryEntry = record { mode = mode; name = name; id = entry_id } in final_of e) ≡ record { mode = mode; name = name; id = entry_id }
  entry_by mode name below_id entry_id below (inl e) same = subst (λ (m : ℕ). entry_of id name below (let d : DirectoryEntry = record { mode = m; name = name; id = entry_id } in final_of d) ≡ record { mode = m; name = name; id = entry_id }) (sym e) refl
  entry_by mode name below_id entry_id below (inr (inl e)) same = subst (λ (m : ℕ). entry_of id name below (let d : DirectoryEntry = record { mode = m; name = name; id = entry_id } in final_of d) ≡ record { mode = m; name = name; id = entry_id }) (sym e) refl
  entry_by mode name below_id entry_id below (inr (inr (inl e))) same = subst (λ (m : ℕ). entry_of id name below (let d : DirectoryEntry = record { mode = m; name = name; id = entry_id } in final_of d) ≡ record { mode = m; name = name; id = entry_id }) (sym e) refl
  entry_by mode name below_id entry_id below (inr (inr (inr (inl e)))) same =
      let folder : entry_of id name below (let d : DirectoryEntry = record { mode = 40000; name = name; id = entry_id } in final_of d) ≡ record { mode = 40000; name = name; id = entry_id } =
      ap (λ (i : List ℕ). let d : DirectoryEntry = record { mode = 40000; name = name; id = i } in d) (same e) in
      subst (λ (m : ℕ). entry_of id name below (let d : DirectoryEntry = record { mode = m; name = name; id = entry_id } in final_of d) ≡ record { mode = m; name = name; id = entry_id }) (sym e) folder
  entry_by mode name below_id entry_id below (inr (inr (inr (inr e)))) same = subst (λ (m : ℕ). entry_of id name below (let d : DirectoryEntry = record { mode = m; name = name; id = entry_id } in final_of d) ≡ record { mode = m; name = name; id = entry_id }) (sym e) refl

  entries_below : (n : Node) → Contains ns n → n.entry.mode ≡ 40000 → entries n.path ≡ entries_in n.inner
  entries_below n there folder = dir_is n.path (entries_in n.inner) (inr (n, there, folder, refl, refl))

  -- the entry of a node is what its place says
  node_is : (n : Node) → Contains ns n → entry_of id n.entry.name (entries n.path) (final_of n.entry) ≡ n.entry
  node_is n there =
      entry_by n.entry.mode n.entry.name [] n.entry.id (entries n.path) (node_entry bodies tree good top held n there).mode
      (λ folder. ap (directory_id id) (entries_below n there folder) ∙ inner_id n there folder)

  entry_there : (dir : List ℕ) (es : List DirectoryEntry) → IsDir bodies tree good top held dir es → (e : DirectoryEntry) → Contains es e → IsEntryIn id places entries dir e
  entry_there dir es is e in_it =
      let n = entry_node bodies tree good top held dir es is e in_it in
      let node = node_at dir e n.0 in
      record {
        named = (dir_entry bodies tree good top held dir es is e in_it).name;
        stands = ap (entry_for id e.name (entries node.path)) (place_at node n.1) ∙ ap (λ (d : DirectoryEntry). Some d) (node_is node n.1);
      }

  some_entry : (name : List ℕ) (below : List DirectoryEntry) (o : Option Member) (e : DirectoryEntry) → entry_for id name below o ≡ Some e → (place : Member) × (o ≡ Some place) × (entry_of id name below place ≡ e)
  some_entry name below None e is = absurd cc
  some_entry name below (Some place) e is = (place, refl, cc)

  entry_from : (dir : List ℕ) (es : List DirectoryEntry) → IsDir bodies tree good top held dir es → (e : DirectoryEntry) → IsEntryIn id places entries dir e → Contains es e
  entry_from dir es is e h =
      let path = child dir e.name in
      let s = some_entry e.name (entries path) (places path) e h.stands in
      let n = place_from path s.0 (child_some dir e.name h.named.not_empty) s.1 in
      let at = node_in bodies tree good top held dir es e.name n.0 is h.named n.1 n.2 in
      let same : n.0.entry ≡ e =
      sym (node_is n.0 n.1) ∙ ap (λ (p : List ℕ). entry_of id n.0.entry.name (entries p) (final_of n.0.entry)) n.2
      ∙ ap (λ (name : List ℕ). entry_of id name (entries path) (final_of n.0.entry)) at.0 ∙ ap (λ (p : Member). entry_of id e.name (entries path) p) n.3 ∙ s.2 in
      subst (Contains es) same at.1

  pub are_directories : AreDirectories id places entries
  are_directories = record {
    good = λ dir folder. dir_entries bodies tree good top held dir (entries dir) (folder_dir dir folder);
    all = λ dir folder e. let is = folder_dir dir folder in (entry_there dir (entries dir) is e, entry_from dir (entries dir) is e);
  }
