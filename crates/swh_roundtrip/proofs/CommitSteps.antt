-- What the commands of an object make, where the marks lead to what it names.
use Rattle.std.proofs.Common.{◌≡◌, ◌≢◌, ℕ, ◌==◌, Bool, true, false, cond, List, [], ◌∷◌, ◌++◌, map, Option, Some, None, Result, Ok, refl, sym, ap, ◌∙◌}
use Rattle.std.specs.List.{AllByRecursion, flat_map}
use Rattle.std.proofs.lemmas.Bool.{eqb-true}
use Rattle.swh_base.specs.declared.kind.Kind.{Kind}
use Rattle.swh_base.specs.declared.kind.Kind.TheVariants.{Content, Directory, Revision as RevisionKind, Release as ReleaseKind, Snapshot}
use Rattle.swh_base.specs.declared.name.Name.{Name}
use Rattle.swh_base.specs.Revision.{revision_name}
use Rattle.swh_fastlex.specs.Path.{components}
use Rattle.swh_forest.specs.PathMap.{PathMap, set}
use Rattle.swh_pathwalk.specs.Tree.{Row}
use Rattle.swh_fastwrite.specs.Text.{cook_branch}
use Rattle.swh_marks.specs.Marks.{mark_of}
use Rattle.swh_fastcook.specs.Stream.{content_name}
use Rattle.swh_fastgrammar.specs.declared.command.At.{At}
use Rattle.swh_fastgrammar.specs.declared.command.Commitish.{Commitish}
use Rattle.swh_fastgrammar.specs.declared.command.Commitish.TheVariants.{Mark}
use Rattle.swh_fastgrammar.specs.declared.command.Start.{Start}
use Rattle.swh_fastgrammar.specs.declared.command.Dataref.TheVariants.{Mark as MarkOf, Hex}
use Rattle.swh_fastgrammar.specs.declared.command.Change.{Change}
use Rattle.swh_fastgrammar.specs.declared.command.Change.TheVariants.{Set, Clear}
use Rattle.swh_fastgrammar.specs.declared.fault.StreamWhy.TheVariants.{Mark as NoMark}
use Rattle.swh_model.specs.Meaning.{Made}
use Rattle.swh_fastmeaning.specs.Aims.{Missing, or_missing, tip_at, if_commit, if_blob, commit_at, object_at, blob_at}
use Rattle.swh_fastmeaning.specs.Commands.{Target, Targets, Changed, first_parent, commits_at, starting_tree, parents_of, changed, all_changed, commit_parts, ◌>>=◌}
use Rattle.swh_roundtrip.specs.Trees.{leaf_of, with_rows}
use Rattle.swh_roundtrip.specs.Made.{LeadsTo as Knows}
use Rattle.swh_roundtrip.specs.Commands.{said, commit_of, changes_for, StartsFrom}
use Rattle.swh_roundtrip.proofs.CommitItems.{not_mode}

-- ## Commits and blobs by their marks

is_commit : (t : Target) (kind : Kind) → t.name.kind ≡ kind → kind ≡ RevisionKind → if_commit (Some t) ≡ Some t
is_commit t kind e is = let pick : Kind → Option Target = λ k. elim k [ Content ↦ None | Directory ↦ None | RevisionKind ↦ Some t | ReleaseKind ↦ None | Snapshot ↦ None ] in ap pick (e ∙ is)

is_blob : (t : Target) (kind : Kind) → t.name.kind ≡ kind → kind ≡ Content → if_blob (Some t) ≡ Some t
is_blob t kind e is = let pick : Kind → Option Target = λ k. elim k [ Content ↦ Some t | Directory ↦ None | RevisionKind ↦ None | ReleaseKind ↦ None | Snapshot ↦ None ] in ap pick (e ∙ is)

pub commit_by : (order : List Name) (aims : Targets) (a : At Commitish) (name : Name) → a.it ≡ Mark (mark_of order name) → name.kind ≡ RevisionKind → (k : Knows order aims name) → commit_at aims a.at a.it ≡ Ok k.aim
commit_by order aims a name is kind k =
    ap (commit_at aims a.at) is
    ∙ ap (λ (o : Option Target). or_missing (if_commit o) a.at NoMark) k.found
    ∙ ap (λ (o : Option Target). or_missing o a.at NoMark) (is_commit k.aim k.aim.name.kind refl (ap (λ (n : Name). n.kind) k.named ∙ kind))

pub object_by : (order : List Name) (aims : Targets) (a : At Commitish) (name : Name) → a.it ≡ Mark (mark_of order name) → (k : Knows order aims name) → object_at aims a.at a.it ≡ Ok k.aim
object_by order aims a name is k = ap (object_at aims a.at) is ∙ ap (λ (o : Option Target). or_missing o a.at NoMark) k.found

blob_by : (order : List Name) (aims : Targets) (at : ℕ) (name : Name) → name.kind ≡ Content → (k : Knows order aims name) → blob_at aims at (mark_of order name) ≡ Ok k.aim
blob_by order aims at name kind k =
    ap (λ (o : Option Target). or_missing (if_blob o) at NoMark) k.found
    ∙ ap (λ (o : Option Target). or_missing o at NoMark) (is_blob k.aim k.aim.name.kind refl (ap (λ (n : Name). n.kind) k.named ∙ kind))

-- ## Files

-- a tree for which no content was made
abbrev pub at_tree : PathMap → Changed
at_tree m = record { tree = m; contents = [] }

-- The content of the row, where it is a file's, is known by its mark.
abbrev pub KnowsFile : List Name → Targets → Row → Type 0
KnowsFile order aims row = row.entry.mode ≢ 40000 → row.entry.mode ≢ 160000 → Knows order aims (content_name row.entry.id)

first_said : {X : Type 0} (a : At X) (more : List (At X)) (x : X) (xs : List X) → said (a ∷ more) ≡ x ∷ xs → (a.it ≡ x) × (said more ≡ xs)
first_said a more x xs e = (cc, cc)

abbrev as_set : Target → Result (List ℕ × List Made) Missing
as_set aim = Ok (aim.name.id, [])

abbrev put_at : ℕ → List ℕ → PathMap → List ℕ × List Made → Result Changed Missing
put_at mode path m s = Ok (record { tree = set (components path) (record { mode = mode; id = s.0 }) m; contents = [] ++ s.1 })

module _ (id : Kind → List ℕ → List ℕ) (order : List Name) (aims : Targets) where
  one_more : (a : At Change) (more : List (At Change)) (m n : PathMap) (c : Change) (r : Result Changed Missing) → a.it ≡ c → changed id aims a.at c (at_tree m) ≡ Ok (at_tree n) → all_changed id aims more (at_tree n) ≡ r → all_changed id aims (a ∷ more) (at_tree m) ≡ r
  one_more a more m n c r is step rest =
      ap (λ (x : Change). changed id aims a.at x (at_tree m) >>= λ d. all_changed id aims more d) is
      ∙ ap (λ (x : Result Changed Missing). x >>= λ d. all_changed id aims more d) step
      ∙ rest

  file_step : (at : ℕ) (row : Row) (m : PathMap) → row.entry.mode ≢ 40000 → (k : Knows order aims (content_name row.entry.id))
      → changed id aims at (Set row.entry.mode (MarkOf (mark_of order (content_name row.entry.id))) row.path) (at_tree m) ≡ Ok (at_tree (set (components row.path) (leaf_of row.entry) m))
  file_step at row m file k =
      let found : Result Target Missing → Result Changed Missing = λ x. (x >>= as_set) >>= put_at row.entry.mode row.path m in
      let done : List ℕ → Result Changed Missing = λ i. Ok (at_tree (set (components row.path) (record { mode = row.entry.mode; id = i }) m)) in
      ap found (blob_by order aims at (content_name row.entry.id) refl k) ∙ ap done (ap (λ (n : Name). n.id) k.named)

  row_step : (b d : Bool) (row : Row) (rows : List Row) (changes : List (At Change)) (m : PathMap) → (row.entry.mode == 40000) ≡ b → (row.entry.mode == 160000) ≡ d
      → said changes ≡ cond b [] (cond d (Set 160000 (Hex row.entry.id) row.path ∷ []) (Set row.entry.mode (MarkOf (mark_of order (content_name row.entry.id))) row.path ∷ [])) ++ flat_map (changes_for order) rows
      → KnowsFile order aims row → ((more : List (At Change)) (n : PathMap) → said more ≡ flat_map (changes_for order) rows → all_changed id aims more (at_tree n) ≡ Ok (at_tree (with_rows rows n)))
      → all_changed id aims changes (at_tree m) ≡ Ok (at_tree (with_rows rows (cond b m (set (components row.path) (leaf_of row.entry) m))))
  row_step true d row rows changes m e f s k ih = ih changes m s
  row_step false true row rows [] m e f s k ih = absurd cc
  row_step false true row rows (a ∷ more) m e f s k ih =
      let both = first_said a more (Set 160000 (Hex row.entry.id) row.path) (flat_map (changes_for order) rows) s in
      let n : PathMap = set (components row.path) (leaf_of row.entry) m in
      let mode : row.entry.mode ≡ 160000 = eqb-true row.entry.mode 160000 f in
      let done : ℕ → Result Changed Missing = λ k. Ok (at_tree (set (components row.path) (record { mode = k; id = row.entry.id }) m)) in
      let step : changed id aims a.at (Set 160000 (Hex row.entry.id) row.path) (at_tree m) ≡ Ok (at_tree n) = ap done (sym mode) in
      one_more a more m n (Set 160000 (Hex row.entry.id) row.path) (Ok (at_tree (with_rows rows n))) both.0 step (ih more n both.1)
  row_step false false row rows [] m e f s k ih = absurd cc
  row_step false false row rows (a ∷ more) m e f s k ih =
      let c : Change = Set row.entry.mode (MarkOf (mark_of order (content_name row.entry.id))) row.path in
      let both = first_said a more c (flat_map (changes_for order) rows) s in
      let n : PathMap = set (components row.path) (leaf_of row.entry) m in
      let no_folder = not_mode row.entry.mode 40000 e in
      let no_project = not_mode row.entry.mode 160000 f in
      one_more a more m n c (Ok (at_tree (with_rows rows n))) both.0 (file_step a.at row m no_folder (k no_folder no_project)) (ih more n both.1)

  pub files_step : (rows : List Row) (changes : List (At Change)) (m : PathMap) → said changes ≡ flat_map (changes_for order) rows → AllByRecursion (KnowsFile order aims) rows → all_changed id aims changes (at_tree m) ≡ Ok (at_tree (with_rows rows m))
  files_step [] [] m s k = refl
  files_step [] (a ∷ changes) m s k = absurd cc
  files_step (row ∷ rows) changes m s k =
      row_step (row.entry.mode == 40000) (row.entry.mode == 160000) row rows changes m refl refl s k.0 (λ more n t. files_step rows more n t k.1)

  tree_step : (rows : List Row) (changes : List (At Change)) (m : PathMap) → said changes ≡ Clear ∷ flat_map (changes_for order) rows → AllByRecursion (KnowsFile order aims) rows → all_changed id aims changes (at_tree m) ≡ Ok (at_tree (with_rows rows []))
  tree_step rows [] m s k = absurd cc
  tree_step rows (a ∷ changes) m s k =
      let both = first_said a changes Clear (flat_map (changes_for order) rows) s in
      one_more a changes m [] Clear (Ok (at_tree (with_rows rows []))) both.0 refl (files_step rows changes [] both.1 k)

  -- ## Parents

  merges_step : (ids : List (List ℕ)) (merges : List (At Commitish)) → said merges ≡ map (commit_of order) ids → AllByRecursion (λ (i : List ℕ). Knows order aims (revision_name i)) ids
      → (others : List Target) × (commits_at aims merges ≡ Ok others) × (map (λ (a : Target). a.name.id) others ≡ ids)
  merges_step [] [] s k = ([], refl, refl)
  merges_step [] (a ∷ merges) s k = absurd cc
  merges_step (i ∷ ids) [] s k = absurd cc
  merges_step (i ∷ ids) (a ∷ merges) s k =
      let both = first_said a merges (commit_of order i) (map (commit_of order) ids) s in
      let rest = merges_step ids merges both.1 k.1 in (
        k.0.aim ∷ rest.0,
        ap (λ (x : Result Target Missing). x >>= λ aim. commits_at aims merges >>= λ others. Ok (aim ∷ others)) (commit_by order aims a (revision_name i) both.0 refl k.0)
            ∙ ap (λ (x : Result (List Target) Missing). x >>= λ others. Ok (k.0.aim ∷ others)) rest.1,
        ap (λ (x : List ℕ). x ∷ map (λ (a : Target). a.name.id) rest.0) (ap (λ (n : Name). n.id) k.0.named) ∙ ap (λ (x : List (List ℕ)). i ∷ x) rest.2,
      )

  -- what a commit of these parents starts from, and its others
  record HaveParents (parents : List (List ℕ)) (start : Start) (merges : List (At Commitish)) : Type 0 where
    first : Option Target
    is_first : first_parent aims cook_branch start ≡ Ok first
    others : List Target
    are_others : commits_at aims merges ≡ Ok others
    are : parents_of first others ≡ parents

  parents_step : (parents : List (List ℕ)) (start : Start) (merges : List (At Commitish)) → StartsFrom order parents start merges → AllByRecursion (λ (i : List ℕ). Knows order aims (revision_name i)) parents
      → (parents ≡ [] → tip_at cook_branch aims ≡ None) → HaveParents parents start merges
  parents_step [] start merges (begins, none) k free = record {
    first = None;
    is_first = ap (first_parent aims cook_branch) begins ∙ (let found : Option Target → Result (Option Target) Missing = λ o. Ok (if_commit o) in ap found (free refl));
    others = [];
    are_others = ap (commits_at aims) none;
    are = refl;
  }
  parents_step (i ∷ ids) start merges (a, begins, is, more) k free =
      let rest = merges_step ids merges more k.1 in
      record {
        first = Some k.0.aim;
        is_first = ap (first_parent aims cook_branch) begins ∙ ap (λ (x : Result Target Missing). x >>= λ aim. Ok (Some aim)) (commit_by order aims a (revision_name i) is refl k.0);
        others = rest.0;
        are_others = rest.1;
        are = ap (λ (x : List ℕ). x ∷ map (λ (a : Target). a.name.id) rest.0) (ap (λ (n : Name). n.id) k.0.named) ∙ ap (λ (x : List (List ℕ)). i ∷ x) rest.2;
      }

  -- The parents and the tree of a commit.
  pub commit_is : (parents : List (List ℕ)) (rows : List Row) (start : Start) (merges : List (At Commitish)) (changes : List (At Change)) → StartsFrom order parents start merges → said changes ≡ Clear ∷ flat_map (changes_for order) rows
      → AllByRecursion (λ (i : List ℕ). Knows order aims (revision_name i)) parents → AllByRecursion (KnowsFile order aims) rows → (parents ≡ [] → tip_at cook_branch aims ≡ None)
      → commit_parts id aims cook_branch start merges changes ≡ Ok (parents, at_tree (with_rows rows []))
  commit_is parents rows start merges changes starts files k known free =
      let p = parents_step parents start merges starts k free in
      let done : List (List ℕ) → Result (List (List ℕ) × Changed) Missing = λ x. Ok (x, at_tree (with_rows rows [])) in
      ap (λ (x : Result (Option Target) Missing). x >>= λ first. commits_at aims merges >>= λ others. all_changed id aims changes (record { tree = starting_tree first; contents = [] }) >>= λ c. Ok (parents_of first others, c)) p.is_first
      ∙ ap (λ (x : Result (List Target) Missing). x >>= λ others. all_changed id aims changes (record { tree = starting_tree p.first; contents = [] }) >>= λ c. Ok (parents_of p.first others, c)) p.are_others
      ∙ ap (λ (x : Result Changed Missing). x >>= λ c. Ok (parents_of p.first p.others, c)) (tree_step rows changes (starting_tree p.first) files known)
      ∙ ap done p.are
