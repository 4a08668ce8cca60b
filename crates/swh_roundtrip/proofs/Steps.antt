-- What the commands of the objects make, one after another: each mark leads to its name, and what is made is held.
use Rattle.std.proofs.Common.{◌≡◌, ◌≢◌, inl, inr, ℕ, ◌+◌, Bool, true, false, cond, List, [], ◌∷◌, ◌++◌, length, length-append, map, Option, Some, None, Result, Ok, Err, Contains, refl, sym, ap, ◌∙◌, subst, arith, append_assoc}
use Rattle.std.specs.List.{AllByRecursion}
use Rattle.std.specs.Ordering.{nat_cmp}
use Rattle.std.specs.Cmp.Lexicographic.{slice_cmp}
use Rattle.std.specs.BTreeMap.{insert_entry, is_at}
use Rattle.std.specs.Map.{remove_entry}
use Rattle.std.specs.FinMap.{nat_cmp-IsAntisymmetric, slice_cmp-IsAntisymmetric}
use Rattle.std.proofs.lemmas.Cmp.{nat_cmp_total, nat_list_cmp_total}
use Rattle.std.proofs.lemmas.List.Elements.{Contains-append_left, Contains-append_right, Contains-append_cases, filter-append}
use Rattle.std.proofs.lemmas.List.{append-nil}
use Rattle.swh_base.specs.declared.kind.Kind.{Kind}
use Rattle.swh_base.specs.declared.kind.Kind.TheVariants.{Content, Directory as DirectoryKind, Revision as RevisionKind, Release as ReleaseKind, Snapshot as SnapshotKind}
use Rattle.swh_base.specs.declared.name.Name.{Name}
use Rattle.swh_base.specs.Directory.{DirectoryEntry}
use Rattle.swh_base.specs.Reach.{IsChildIn}
use Rattle.swh_base.specs.Revision.{Revision, revision_name, revision_text}
use Rattle.swh_base.specs.Release.{Release, IsRelease, release_text}
use Rattle.swh_base.specs.Manifest.{AreChildren}
use Rattle.swh_base.proofs.RevisionLemmas.{one_release}
use Rattle.swh_base.proofs.Elementary.{only, none_in}
use Rattle.swh_model.specs.Archive.{Bodies, body_of, IsGraphOf}
use Rattle.swh_model.specs.Meaning.{Made, content}
use Rattle.swh_graph.specs.Holding.{HoldsDirectory}
use Rattle.swh_graph.specs.Path.{directory_name}
use Rattle.swh_graph.proofs.Lists.{in_first, in_rest, in_cases}
use Rattle.swh_postorder.specs.Cycle.{ArePreceded}
use Rattle.swh_postorder.proofs.Preceded.{cut_at}
use Rattle.swh_carried.specs.Rules.{HasDirectoryEntry}
use Rattle.swh_fastcarried.specs.Rules.{tag_branch}
use Rattle.swh_revfmt.specs.Plain.{PlainRevision, IsPlainRevision, plain_revision_text, PlainRelease, IsPlainRelease, plain_release_text}
use Rattle.swh_forest.specs.PathMap.{PathMap}
use Rattle.swh_forest.specs.Forest.{flat}
use Rattle.swh_trees.specs.Directory.{directory_id, directory_of}
use Rattle.swh_pathwalk.specs.Tree.{Tree, entries_in, Row}
use Rattle.swh_fastwrite.specs.Text.{cook_branch}
use Rattle.swh_marks.specs.Marks.{is_written_kind, is_written, written, mark_of, StandOnce}
use Rattle.swh_marks.proofs.Marked.{mark_is}
use Rattle.swh_fastcook.specs.Ends.{HasRevision}
use Rattle.swh_fastcook.specs.Stream.{content_name}
use Rattle.swh_fastcook.proofs.Kids.{revision_kid, written_object}
use Rattle.swh_fastgrammar.specs.declared.command.Command.{Command}
use Rattle.swh_fastmeaning.specs.Aims.{Missing, tip_at, with_mark, without_tip}
use Rattle.swh_fastmeaning.specs.Commands.{Target, Targets, Changed, Making, Makes, no_making, step, steps, then, only as only_aims, aim_of, root_of, revision, revision_parts, release, release_parts, marked, committed, tagged, ◌>>=◌}
use Rattle.swh_fastcook.specs.Loaded.{SetsTag}
use Rattle.swh_roundtrip.specs.Trees.{with_rows, HasNoEmptyFolder}
use Rattle.swh_roundtrip.specs.Sound.{AreNamed}
use Rattle.swh_roundtrip.specs.Made.{LeadsTo as Knows, IsHeldMade, AreMadeAgain}
use Rattle.swh_roundtrip.specs.Commands.{begin_commands, IsBlobCommand, AreCommitCommands, IsTagCommand, AreCommandsOf, AreObjectCommands}
use Rattle.swh_roundtrip.proofs.AimMaps.{insert-own, insert-other, insert-sorted, remove-sorted, Sorted}
use Rattle.swh_roundtrip.proofs.TreeForests.{forest_of, walk-map, made_again, held_id}
use Rattle.swh_roundtrip.proofs.GoodRows.{entry_child, child_file, same_body, kid_in, walk_full, walk_stands, StandsIn}
use Rattle.swh_roundtrip.proofs.HeldFolders.{IsHeldHere, folder_held}
use Rattle.swh_roundtrip.proofs.CommitSteps.{KnowsFile, object_by, at_tree, commit_is}
use Rattle.swh_roundtrip.proofs.Tipping.{Tips, TipsAre, tips_same, tips_commit, tips_tag, tips_begun, begun_free}

pub name_of : (n : Name) (kind : Kind) (i : List ℕ) → n.kind ≡ kind → n.id ≡ i → record { kind = kind; id = i } ≡ n
name_of n kind i k e =
    let by_kind : Kind → Name = λ x. record { kind = x; id = i } in
    let by_id : List ℕ → Name = λ x. record { kind = n.kind; id = x } in
    sym (ap by_id e ∙ ap by_kind k)

-- the marks alone say what they lead to
pub knows_with : (order : List Name) (aims : Targets) (tips : Tips) (n : Name) → Knows order aims n → Knows order (record { marks = aims.marks; tips = tips }) n
knows_with order aims tips n k = record { aim = k.aim; found = k.found; named = k.named }

abbrev pub AreSorted : Tips → Type 0
AreSorted tips = Sorted (slice_cmp nat_cmp) nat_list_cmp_total (slice_cmp-IsAntisymmetric nat_cmp-IsAntisymmetric) tips

module _ (id : Kind → List ℕ → List ℕ) (bodies : Bodies) (order : List Name) where
  -- The map is that of a directory that is held.
  pub record IsHeldTree (m : PathMap) : Type 0 where
    pub tree : Tree
    pub here : IsHeldHere bodies tree
    pub map : m ≡ flat (forest_of tree)

  -- What is known after the commands of these names.
  pub record Carries (front : List Name) (m : Making) : Type 0 where
    pub marks : (n : Name) → Contains front n → is_written n ≡ true → Knows order m.aims n
    pub made : (o : Made) → Contains m.objects o → IsHeldMade bodies o
    pub trees : (t : PathMap) → Contains m.trees t → IsHeldTree t
    pub tips : TipsAre bodies front m.aims.tips
    pub sorted : AreSorted m.aims.tips

  -- These commands go on from what was made, to what is known with one name more.
  pub record Advances (front : List Name) (name : Name) (m : Making) (commands : List Command) : Type 0 where
    pub making : Making
    pub makes : steps id m commands ≡ Ok making
    pub carries : Carries (front ++ name ∷ []) making

  no_more_made : (m : Making) → ((o : Made) → Contains m.objects o → IsHeldMade bodies o) → (o : Made) → Contains (m.objects ++ []) o → IsHeldMade bodies o
  no_more_made m h o there = h o (subst (λ (l : List Made). Contains l o) (append-nil m.objects) there)

  no_more_trees : (m : Making) → ((t : PathMap) → Contains m.trees t → IsHeldTree t) → (t : PathMap) → Contains (m.trees ++ []) t → IsHeldTree t
  no_more_trees m h t there = h t (subst (λ (l : List PathMap). Contains l t) (append-nil m.trees) there)

  one_more_made : (m : Making) (x : Made) → ((o : Made) → Contains m.objects o → IsHeldMade bodies o) → IsHeldMade bodies x → (o : Made) → Contains (m.objects ++ x ∷ []) o → IsHeldMade bodies o
  one_more_made m x h new o there = elim (Contains-append_cases m.objects (x ∷ []) o there) [ inl was ↦ h o was | inr is ↦ subst (IsHeldMade bodies) (only x o is) new ]

  one_more_tree : (m : Making) (x : PathMap) → ((t : PathMap) → Contains m.trees t → IsHeldTree t) → IsHeldTree x → (t : PathMap) → Contains (m.trees ++ x ∷ []) t → IsHeldTree t
  one_more_tree m x h new t there = elim (Contains-append_cases m.trees (x ∷ []) t there) [ inl was ↦ h t was | inr is ↦ subst IsHeldTree (only x t is) new ]

  module _ (once : StandOnce order) (front behind : List Name) (name : Name) (cut : order ≡ front ++ name ∷ behind) where
    own_mark : mark_of order name ≡ length (written front) + 1
    own_mark = sym (mark_is order name (length (written front) + 1) once (record { before = front; behind = behind; cut = cut; number = refl }))

    written_first : (b : Bool) (n : Name) (l : List Name) → b ≡ true → length (cond b (n ∷ l) l) ≡ length l + 1
    written_first true n l e = omega arith
    written_first false n l e = absurd cc

    other_mark : (n : Name) → Contains front n → is_written n ≡ true → mark_of order n ≢ mark_of order name
    other_mark n there w same =
        let c = cut_at front n there in
        let whole : order ≡ c.before ++ n ∷ (c.behind ++ name ∷ behind) = cut ∙ ap (λ (l : List Name). l ++ name ∷ behind) c.cut ∙ append_assoc c.before (n ∷ c.behind) (name ∷ behind) in
        let its : mark_of order n ≡ length (written c.before) + 1 = sym (mark_is order n (length (written c.before) + 1) once (record { before = c.before; behind = c.behind ++ name ∷ behind; cut = whole; number = refl })) in
        let parts : written front ≡ written c.before ++ written (n ∷ c.behind) = ap written c.cut ∙ filter-append is_written c.before (n ∷ c.behind) in
        let size = length-append (written c.before) (written (n ∷ c.behind)) in
        let some : length (written (n ∷ c.behind)) ≡ length (written c.behind) + 1 = written_first (is_written n) n (written c.behind) w in
        omega (arith, own_mark, its, same, ap length parts, size, some)

    -- one mark more
    marks_more : (aims : Targets) (t : Target) → t.name ≡ name → ((n : Name) → Contains front n → is_written n ≡ true → Knows order aims n) → (n : Name) → Contains (front ++ name ∷ []) n → is_written n ≡ true → Knows order (with_mark (Some (mark_of order name)) t aims) n
    marks_more aims t is h n there w =
        elim (Contains-append_cases front (name ∷ []) n there) [
          | inl was ↦
              let k = h n was w in
              record {
                aim = k.aim;
                found = insert-other nat_cmp nat_cmp_total nat_cmp-IsAntisymmetric aims.marks (mark_of order name) (mark_of order n) t (other_mark n was w) ∙ k.found;
                named = k.named;
              }
          | inr own ↦ subst (Knows order (with_mark (Some (mark_of order name)) t aims)) (only name n own)
              (record { aim = t; found = insert-own nat_cmp nat_cmp_total nat_cmp-IsAntisymmetric aims.marks (mark_of order name) t; named = is })
        ]

    -- no mark more, for what is not written
    marks_same : (aims : Targets) → is_written name ≡ false → ((n : Name) → Contains front n → is_written n ≡ true → Knows order aims n) → (n : Name) → Contains (front ++ name ∷ []) n → is_written n ≡ true → Knows order aims n
    marks_same aims none h n there w =
        elim (Contains-append_cases front (name ∷ []) n there) [
          | inl was ↦ h n was w
          | inr own ↦ absurd (let bad : true ≡ false = sym w ∙ ap is_written (sym (only name n own)) ∙ none in cc)
        ]

    -- ## A content

    step_blob : (m : Making) (commands : List Command) → AreNamed id bodies → name.kind ≡ Content → Carries front m → IsBlobCommand bodies order name commands → Advances front name m commands
    step_blob m commands named kind c b =
        let o : Made = content b.body in
        let own : (aim_of id o []).name ≡ name = name_of name Content (id Content b.body) kind (named name b.body b.held ∙ ap (λ (k : Kind). id k b.body) kind) in
        record {
          making = then id m (marked id m.aims (Some (mark_of order name)) o);
          makes = ap (steps id m) b.is;
          carries = record {
            marks = marks_more m.aims (aim_of id o []) own c.marks;
            made = one_more_made m o c.made (record { name = name; kind = kind; held = b.held });
            trees = no_more_trees m c.trees;
            tips = tips_same bodies front name m.aims.tips (λ tags. subst (λ (k : Kind). SetsTag bodies name k tags tags) (sym kind) refl) c.tips;
            sorted = c.sorted;
          };
        }

    -- ## What has no command

    step_none : (m : Making) (commands : List Command) (kind : Kind) → name.kind ≡ kind → is_written_kind kind ≡ false → ((tags : _) → SetsTag bodies name kind tags tags) → Carries front m → commands ≡ [] → Advances front name m commands
    step_none m commands kind e none no_tag c is = record {
      making = m;
      makes = ap (steps id m) is;
      carries = record {
        marks = marks_same m.aims (ap is_written_kind e ∙ none) c.marks;
        made = c.made;
        trees = c.trees;
        tips = tips_same bodies front name m.aims.tips (λ tags. subst (λ (k : Kind). SetsTag bodies name k tags tags) (sym e) (no_tag tags)) c.tips;
        sorted = c.sorted;
      };
    }

    -- ## A release

    tag_body : (p : PlainRelease) (body : List ℕ) → IsPlainRelease body p → body ≡ plain_release_text p
    tag_body p body is =
        let text : List ℕ → List ℕ = λ r. release_text (record { object = p.object; tag = p.tag; rest = r }) in
        is.release.text ∙ ap text is.rest.text

    step_tag : (m : Making) (commands : List Command) → AreNamed id bodies → name.kind ≡ ReleaseKind → Carries front m → (t : IsTagCommand bodies order name commands) → Contains front t.plain.object → Advances front name m commands
    step_tag m commands named kind c t there =
        let p : PlainRelease = t.plain in
        let k = c.marks p.object there (object_written_of p t.is_plain) in
        let o : Made = release id k.aim p.tag p.rest.tagger p.rest.message in
        let text : Name → List ℕ = λ n. plain_release_text (release_parts n p.tag p.rest.tagger p.rest.message) in
        let body_is : o.body ≡ t.body = ap text k.named ∙ sym (tag_body p t.body t.is_plain) in
        let own : (aim_of id o []).name ≡ name =
        ap (λ (b : List ℕ). name_at b) body_is ∙ name_of name ReleaseKind (id ReleaseKind t.body) kind (named name t.body t.held ∙ ap (λ (x : Kind). id x t.body) kind) in
        let held : IsHeldMade bodies o = record { name = name; kind = kind; held = t.held ∙ ap (λ (b : List ℕ). Some b) (sym body_is) } in
        let next : Making = tagged id m.aims (Some (mark_of order name)) p.tag o in
        let aims : Targets = with_mark (Some (mark_of order name)) (aim_of id o []) m.aims in
        let step_is : step id m.aims t.command ≡ Ok next =
        ap (step id m.aims) t.tag.is
        ∙ ap (λ (x : Result Target Missing). x >>= λ aim. Ok (tagged id m.aims (Some (mark_of order name)) p.tag (release id aim p.tag p.rest.tagger p.rest.message))) (object_by order m.aims t.tag.object p.object t.tag.named k) in
        record {
          making = then id m next;
          makes = ap (steps id m) t.is ∙ ap (λ (x : Result Making Missing). x >>= λ y. steps id (then id m y) []) step_is;
          carries = record {
            marks = λ n one w. knows_with order aims (insert_entry (slice_cmp nat_cmp) m.aims.tips (tag_branch p.tag) (aim_of id o [])) n (marks_more m.aims (aim_of id o []) own c.marks n one w);
            made = one_more_made m o c.made held;
            trees = no_more_trees m c.trees;
            tips = tips_tag bodies front name m.aims.tips p.tag name.id (aim_of id o []) (own ∙ sym (name_of name ReleaseKind name.id kind refl)) (λ tags. subst (λ (x : Kind). SetsTag bodies name x tags (insert_entry (slice_cmp nat_cmp) tags p.tag name.id)) (sym kind) (record { object = p.object; tag = p.tag; rest = t.is_plain.bytes }, record { body = t.body; held = t.held; is = t.is_plain.release }, refl)) c.tips;
            sorted = insert-sorted (slice_cmp nat_cmp) nat_list_cmp_total (slice_cmp-IsAntisymmetric nat_cmp-IsAntisymmetric) m.aims.tips (tag_branch p.tag) (aim_of id o []) c.sorted;
          };
        }
      where
        name_at : List ℕ → Name
        name_at b = record { kind = ReleaseKind; id = id ReleaseKind b }

        object_written_of : (p : PlainRelease) {body : List ℕ} → IsPlainRelease body p → is_written p.object ≡ true
        object_written_of p is = written_object p.object.kind is.no_directory is.release.no_snapshot

    -- ## A revision

    revision_body : (p : PlainRevision) (body : List ℕ) → IsPlainRevision body p → body ≡ plain_revision_text p
    revision_body p body is =
        let text : List ℕ → List ℕ = λ r. revision_text (record { directory = p.directory; parents = p.parents; rest = r }) in
        is.revision.text ∙ ap text is.rest.text

    -- the branch of all commits begins anew, where there is no parent
    record Begun (m : Making) (parents : List (List ℕ)) : Type 0 where
      making : Making
      makes : (more : List Command) → steps id m (begin_commands parents ++ more) ≡ steps id making more
      carries : Carries front making
      free : parents ≡ [] → tip_at cook_branch making.aims ≡ None

    begun : (m : Making) (parents : List (List ℕ)) → Carries front m → Begun m parents
    begun m [] c = record {
      making = then id m (only_aims id (without_tip cook_branch m.aims));
      makes = λ more. refl;
      carries = record {
        marks = λ n there w. knows_with order m.aims (remove_entry (is_at (slice_cmp nat_cmp cook_branch)) m.aims.tips) n (c.marks n there w);
        made = no_more_made m c.made;
        trees = no_more_trees m c.trees;
        tips = tips_begun bodies front m.aims.tips c.tips;
        sorted = remove-sorted (slice_cmp nat_cmp) nat_list_cmp_total (slice_cmp-IsAntisymmetric nat_cmp-IsAntisymmetric) m.aims.tips cook_branch c.sorted;
      };
      free = λ e. begun_free bodies front m.aims.tips c.tips;
    }
    begun m (i ∷ parents) c = record { making = m; makes = λ more. refl; carries = c; free = λ e. absurd cc }

    module _ (children_of : Name → Option (List Name)) (graph : IsGraphOf bodies children_of) (preceded : ArePreceded children_of order) (named : AreNamed id bodies)
        (no_empty : (n : Name) → Contains order n → (parent : Name) (e : DirectoryEntry) → Contains order parent → HasDirectoryEntry bodies parent e → e.mode ≡ 40000 → n ≡ directory_name e.id → HoldsDirectory bodies n [] → ⊥) where
      in_order : (n : Name) → Contains front n → Contains order n
      in_order n there = subst (λ (l : List Name). Contains l n) (sym cut) (Contains-append_left front (name ∷ behind) n there)

      front_preceded : ArePreceded children_of front
      front_preceded before n more e child kid = preceded before n (more ++ name ∷ behind) (cut ∙ ap (λ (l : List Name). l ++ name ∷ behind) e ∙ append_assoc before (n ∷ more) (name ∷ behind)) child kid

      kid_front : (child : Name) → IsChildIn children_of name child → Contains front child
      kid_front child kid = preceded front name behind cut child kid

      front_full : (n : Name) → Contains front n → (parent : Name) (e : DirectoryEntry) → Contains front parent → HasDirectoryEntry bodies parent e → e.mode ≡ 40000 → n ≡ directory_name e.id → HoldsDirectory bodies n [] → ⊥
      front_full n there parent e at_parent has folder is empty = no_empty n (in_order n there) parent e (in_order parent at_parent) has folder is empty

      row_known : (aims : Targets) → ((n : Name) → Contains front n → is_written n ≡ true → Knows order aims n) → (row : Row) → StandsIn bodies children_of graph front front_preceded row → KnowsFile order aims row
      row_known aims h row s f p =
          let n : Name = content_name row.entry.id in
          h n (kid_in bodies children_of graph front front_preceded s.place n s.there (entry_child bodies children_of graph front front_preceded s.place row.entry n s.has (child_file row.entry f p))) refl

      rows_known : (aims : Targets) → ((n : Name) → Contains front n → is_written n ≡ true → Knows order aims n) → (rows : List Row) → AllByRecursion (StandsIn bodies children_of graph front front_preceded) rows → AllByRecursion (KnowsFile order aims) rows
      rows_known aims h [] s = tt
      rows_known aims h (row ∷ rows) s = (row_known aims h row s.0, rows_known aims h rows s.1)

      parents_known : (aims : Targets) → ((n : Name) → Contains front n → is_written n ≡ true → Knows order aims n) → (parents : List (List ℕ)) → ((i : List ℕ) → Contains parents i → Contains front (revision_name i)) → AllByRecursion (λ (i : List ℕ). Knows order aims (revision_name i)) parents
      parents_known aims h [] there = tt
      parents_known aims h (i ∷ parents) there = (h (revision_name i) (there i (in_first i parents)) refl, parents_known aims h parents (λ j one. there j (in_rest i parents j one)))

      in_map : (ids : List (List ℕ)) (i : List ℕ) → Contains ids i → Contains (map revision_name ids) (revision_name i)
      in_map [] i there = absurd (none_in i there)
      in_map (x ∷ ids) i there = elim (in_cases x ids i there) [
        | inl same ↦ subst (λ (y : List ℕ). Contains (map revision_name (x ∷ ids)) (revision_name y)) same (in_first (revision_name x) (map revision_name ids))
        | inr later ↦ in_rest (revision_name x) (map revision_name ids) (revision_name i) (in_map ids i later)
      ]

      step_commit : (m : Making) (commands : List Command) → name.kind ≡ RevisionKind → Carries front m → AreCommitCommands bodies order name commands → Advances front name m commands
      step_commit m commands kind c t =
          let p : PlainRevision = t.plain in
          let r : Revision = record { directory = p.directory; parents = p.parents; rest = t.is_plain.bytes } in
          let start : Name = directory_name p.directory in
          let tree : Tree = t.walk.tree in
          let there : Contains front start = kid_front start (revision_kid bodies children_of graph name t.body r start kind t.held t.is_plain.revision (in_first start (map revision_name p.parents))) in
          let full : HasNoEmptyFolder tree = walk_full bodies children_of graph front front_preceded front_full start tree there refl t.walk.is in
          let built : PathMap = with_rows t.rows [] in
          let map_is : built ≡ flat (forest_of tree) = ap (λ (rows : List Row). with_rows rows []) t.walk.rows_are ∙ walk-map bodies start tree t.walk.is full in
          let entries_are : directory_of id built ≡ entries_in tree = ap (λ (rows : List Row). directory_of id (with_rows rows [])) t.walk.rows_are ∙ made_again id bodies named start tree t.walk.is full in
          let root_is : root_of id built ≡ p.directory = ap (directory_id id) entries_are ∙ sym (held_id id bodies named p.directory (entries_in tree) t.walk.is.top) in
          let o : Made = revision id built p.parents p.rest in
          let text : List ℕ → List ℕ = λ d. plain_revision_text (revision_parts d p.parents p.rest) in
          let body_is : o.body ≡ t.body = ap text root_is ∙ sym (revision_body p t.body t.is_plain) in
          let own : (aim_of id o built).name ≡ name = ap (λ (b : List ℕ). name_at b) body_is ∙ name_of name RevisionKind (id RevisionKind t.body) kind (named name t.body t.held ∙ ap (λ (x : Kind). id x t.body) kind) in
          let held : IsHeldMade bodies o = record { name = name; kind = kind; held = t.held ∙ ap (λ (b : List ℕ). Some b) (sym body_is) } in
          let b = begun m p.parents c in
          let k = b.carries in
          let aims : Targets = b.making.aims in
          let known = rows_known aims k.marks t.rows (subst (AllByRecursion (StandsIn bodies children_of graph front front_preceded)) (sym t.walk.rows_are) (walk_stands bodies children_of graph front front_preceded start tree there refl t.walk.is)) in
          let parents = parents_known aims k.marks p.parents (λ i one. kid_front (revision_name i) (revision_kid bodies children_of graph name t.body r (revision_name i) kind t.held t.is_plain.revision (in_rest start (map revision_name p.parents) (revision_name i) (in_map p.parents i one)))) in
          let parts = commit_is id order aims p.parents t.rows t.commit.start t.commit.merges t.commit.changes t.commit.starts t.commit.files parents known b.free in
          let next : Making = committed id aims cook_branch (Some (mark_of order name)) (at_tree built) o in
          let step_is : step id aims t.command ≡ Ok next =
          ap (step id aims) t.commit.is
          ∙ ap (λ (x : Result (List (List ℕ) × Changed) Missing). x >>= λ q. Ok (committed id aims cook_branch (Some (mark_of order name)) q.1 (revision id q.1.tree q.0 p.rest))) parts in
          let has : HasRevision (front ++ name ∷ []) = record { commit = name; there = Contains-append_right front (name ∷ []) name (in_first name []); kind = kind } in
          record {
            making = then id b.making next;
            makes = ap (steps id m) t.is ∙ b.makes (t.command ∷ []) ∙ ap (λ (x : Result Making Missing). x >>= λ y. steps id (then id b.making y) []) step_is;
            carries = record {
              marks = λ n one w. knows_with order (with_mark (Some (mark_of order name)) (aim_of id o built) aims) (insert_entry (slice_cmp nat_cmp) aims.tips cook_branch (aim_of id o built)) n (marks_more aims (aim_of id o built) own k.marks n one w);
              made = one_more_made b.making o k.made held;
              trees = one_more_tree b.making built k.trees (record { tree = tree; here = record { name = start; kind = refl; top = t.walk.is.top; under = t.walk.is.under; full = full }; map = map_is });
              tips = tips_commit bodies front name aims.tips (aim_of id o built) (λ tags. subst (λ (x : Kind). SetsTag bodies name x tags tags) (sym kind) refl) has k.tips;
              sorted = insert-sorted (slice_cmp nat_cmp) nat_list_cmp_total (slice_cmp-IsAntisymmetric nat_cmp-IsAntisymmetric) aims.tips cook_branch (aim_of id o built) k.sorted;
            };
          }
        where
          name_at : List ℕ → Name
          name_at x = record { kind = RevisionKind; id = id RevisionKind x }

      release_by : (body : List ℕ) (r : Release) → name.kind ≡ ReleaseKind → body_of bodies name ≡ Some body → IsRelease body r → (found : Option (List Name)) → children_of name ≡ found → children_of name ≡ Some (r.object ∷ [])
      release_by body r kind held is None missing = let e : Some body ≡ None = sym held ∙ graph.missing name missing in cc
      release_by body r kind held is (Some kids) found =
          let has = graph.held name kids found in
          let same = same_body has.0 body (sym has.1 ∙ held) in
          let are = subst (λ (k : Kind). AreChildren k has.0 kids) kind has.2 in
          found ∙ ap (λ (ns : List Name). Some ns) (are.kids ∙ ap (λ (x : Release). x.object ∷ []) (one_release body are.release r (subst (λ (b : List ℕ). IsRelease b are.release) same are.is) is))

      object_front : (commands : List Command) (t : IsTagCommand bodies order name commands) → name.kind ≡ ReleaseKind → Contains front t.plain.object
      object_front commands t kind =
          let r : Release = record { object = t.plain.object; tag = t.plain.tag; rest = t.is_plain.bytes } in
          kid_front t.plain.object (record { kids = t.plain.object ∷ []; held = release_by t.body r kind t.held t.is_plain.release (children_of name) refl; one_of = in_first t.plain.object [] })

      -- the commands of a name
      pub step_by : (m : Making) (commands : List Command) (kind : Kind) → name.kind ≡ kind → Carries front m → AreCommandsOf bodies order kind name commands → Advances front name m commands
      step_by m commands Content e c t = step_blob m commands named e c t
      step_by m commands DirectoryKind e c t = step_none m commands DirectoryKind e refl (λ tags. refl) c t
      step_by m commands RevisionKind e c t = step_commit m commands e c t
      step_by m commands ReleaseKind e c t = step_tag m commands named e c t (object_front commands t e)
      step_by m commands SnapshotKind e c t = step_none m commands SnapshotKind e refl (λ tags. refl) c t

  -- ## All objects

  by_result : (r : Result Making Missing) (m : Making) (a b : List Command) (n : Making) → ((k : Making) → steps id (then id m k) a ≡ Ok n → steps id (then id m k) (a ++ b) ≡ steps id n b)
      → (r >>= λ k. steps id (then id m k) a) ≡ Ok n → (r >>= λ k. steps id (then id m k) (a ++ b)) ≡ steps id n b
  by_result (Ok k) m a b n ih e = ih k e
  by_result (Err missing) m a b n ih e = absurd cc

  pub steps_append : (m : Making) (a b : List Command) (n : Making) → steps id m a ≡ Ok n → steps id m (a ++ b) ≡ steps id n b
  steps_append m [] b n e = let same : m ≡ n = cc in ap (λ (x : Making). steps id x b) same
  steps_append m (c ∷ a) b n e = by_result (step id m.aims c) m a b n (λ k f. steps_append (then id m k) a b n f) e

  module _ (once : StandOnce order) (children_of : Name → Option (List Name)) (graph : IsGraphOf bodies children_of) (preceded : ArePreceded children_of order) (named : AreNamed id bodies)
      (no_empty : (n : Name) → Contains order n → (parent : Name) (e : DirectoryEntry) → Contains order parent → HasDirectoryEntry bodies parent e → e.mode ≡ 40000 → n ≡ directory_name e.id → HoldsDirectory bodies n [] → ⊥) where
    -- The commands of the names behind these go on to all of them.
    record GoesOn (front : List Name) (m : Making) (commands : List Command) : Type 0 where
      making : Making
      makes : steps id m commands ≡ Ok making
      carries : Carries order making

    go_on : (names front : List Name) (m : Making) (commands : List Command) → order ≡ front ++ names → Carries front m → AreObjectCommands bodies order names commands → GoesOn front m commands
    go_on [] front m commands cut c t = record { making = m; makes = ap (steps id m) t; carries = subst (λ (l : List Name). Carries l m) (sym (cut ∙ append-nil front)) c }
    go_on (n ∷ names) front m commands cut c (own, more, is, one, rest) =
        let s = step_by once front names n cut children_of graph preceded named no_empty m own n.kind refl c one in
        let next : order ≡ (front ++ n ∷ []) ++ names = cut ∙ sym (append_assoc front (n ∷ []) names) in
        let g = go_on names (front ++ n ∷ []) s.making more next s.carries rest in
        record {
          making = g.making;
          makes = ap (steps id m) is ∙ steps_append m own more s.making s.makes ∙ g.makes;
          carries = g.carries;
        }

    nothing_carried : Carries [] (no_making)
    nothing_carried = record {
      marks = λ n there w. absurd (none_in n there);
      made = λ o there. absurd (none_in o there);
      trees = λ t there. absurd (none_in t there);
      tips = record { tags = []; set = refl; cook = []; is_cook = inl refl; rest = []; cut = refl; named = refl };
      sorted = tt;
    }

    -- What the commands of all objects make.
    pub record AllMade (commands : List Command) : Type 0 where
      pub making : Making
      pub makes : steps id no_making commands ≡ Ok making
      pub carries : Carries order making

    pub made_held : (m : Making) → Carries order m → (o : Made) → Makes id m o → IsHeldMade bodies o
    made_held m c o (inl there) = c.made o there
    made_held m c o (inr (t, there, is)) =
        let h = c.trees t there in
        let f = folder_held bodies id named h.tree h.here t h.map o is in
        record { name = f.0; kind = f.1; held = f.2 }

    pub all_made : (commands : List Command) → AreObjectCommands bodies order order commands → AllMade commands
    all_made commands t = let g = go_on order [] no_making commands refl nothing_carried t in record { making = g.making; makes = g.makes; carries = g.carries }

    pub made_again_all : (commands : List Command) → AreObjectCommands bodies order order commands → AreMadeAgain id bodies order commands
    made_again_all commands t = let g = all_made commands t in record { making = g.making; makes = g.makes; marks = g.carries.marks; held = made_held g.making g.carries }
