-- What was cooked loads back.
use Rattle.std.proofs.Common.{◌≡◌, ◌≢◌, inl, inr, ℕ, ◌≤◌, ◌^◌, Bool, true, false, not, cond, List, [], ◌∷◌, ◌++◌, length, map, filter, Option, Some, None, Contains, refl, sym, ap, ◌∙◌, subst, arith, codes}
use Rattle.std.specs.Ordering.{nat_cmp, is_eq, match_ordering}
use Rattle.std.specs.declared.cmp.Ordering.{Ordering}
use Rattle.std.specs.declared.cmp.Ordering.TheVariants.{Less, Equal, Greater}
use Rattle.std.specs.Cmp.Lexicographic.{slice_cmp}
use Rattle.std.specs.BTreeMap.{is_at}
use Rattle.std.proofs.lemmas.Cmp.{nat_list_cmp_total}
use Rattle.std.proofs.lemmas.List.Elements.{Contains-append_left, Contains-append_right, Contains-append_cases}
use Rattle.swh_base.specs.Limits.{body_limit}
use Rattle.swh_base.specs.declared.kind.Kind.{Kind}
use Rattle.swh_base.specs.declared.kind.Kind.TheVariants.{Content, Directory as DirectoryKind, Revision as RevisionKind, Release as ReleaseKind, Snapshot as SnapshotKind}
use Rattle.swh_base.specs.declared.name.Name.{Name}
use Rattle.swh_base.specs.Snapshot.{SnapshotBranch, ToObject, snapshot_text}
use Rattle.swh_base.proofs.Elementary.{none_in, only}
use Rattle.swh_model.specs.Archive.{Bodies, IsGraphOf}
use Rattle.swh_model.specs.Meaning.{Made, StreamMeaning, head_branch, put_branch, with_head}
use Rattle.swh_graph.proofs.Lists.{in_first, in_map}
use Rattle.swh_postorder.specs.Cycle.{ArePreceded}
use Rattle.swh_postorder.specs.Postorder.{IsPostorder}
use Rattle.swh_carried.specs.declared.fault.Why.TheVariants.{Refs, Length}
use Rattle.swh_carried.specs.Uncarried.{AreCarried}
use Rattle.swh_fastcarried.specs.Rules.{tag_branch}
use Rattle.swh_marks.specs.Marks.{is_written_kind}
use Rattle.swh_fastcook.specs.Stream.{IsStreamText}
use Rattle.swh_fastgrammar.specs.declared.command.Command.{Command}
use Rattle.swh_fastmeaning.specs.Commands.{Target, Targets, no_making, steps}
use Rattle.swh_fastmeaning.specs.Snapshots.{tip_branch, branches_of, refs_of, snapshot_of}
use Rattle.swh_fastload.specs.Input.{Means, MeansStream, AreCarriedOut, EndsWithin, IsMeant}
use Rattle.swh_roundtrip.specs.Commands.{AreRootTips}
use Rattle.swh_fastcook.specs.Cook.{BreaksStream, IsHeadOf}
use Rattle.swh_fastcook.specs.Loaded.{SetTags, branch_of_tag, release_name, main_branch, without_head as headless, AreMany, AreLoadedOf, LoadsMany}
use Rattle.swh_roundtrip.specs.LoadsBack.{LoadsAs, LoadsBack}
use Rattle.swh_fastcook.specs.Length.{IsLongStream}
use Rattle.swh_roundtrip.specs.Sound.{AreInLimit, AreOfBytes, AreNamed}
use Rattle.swh_roundtrip.proofs.AimMaps.{in-found}
use Rattle.swh_roundtrip.proofs.Branching.{in_tips}
use Rattle.swh_roundtrip.proofs.Carried.{preceded, once, is_stream}
use Rattle.swh_roundtrip.proofs.Endings.{SetsAll, Finishes, finishes}
use Rattle.swh_roundtrip.proofs.FolderLists.{objects_in, made_in, in_made}
use Rattle.swh_roundtrip.proofs.GoodObjects.{no_empty, root_there, below_or}
use Rattle.swh_roundtrip.proofs.OtherRoots.{revision_tips, release_tips, root_last}
use Rattle.swh_roundtrip.proofs.SnapshotRoots.{release_held, target_order, tips_are, with_head_is}
use Rattle.swh_roundtrip.proofs.Steps.{all_made, made_held, name_of}
use Rattle.swh_roundtrip.proofs.TagLookups.{text_exact, tag_last}
use Rattle.swh_roundtrip.proofs.Tipping.{Tips}

-- ## How many refs

abbrev is_ref_branch : SnapshotBranch → Bool
is_ref_branch b = not (is_at (slice_cmp nat_cmp (codes "HEAD")) b.name)

put_by : (o : Ordering) (h : List ℕ) (c : SnapshotBranch) (cs more : List SnapshotBranch) → slice_cmp nat_cmp (codes "HEAD") c.name ≡ o → filter is_ref_branch more ≡ filter is_ref_branch cs
    → filter is_ref_branch (match_ordering o (head_branch h ∷ c ∷ cs) (head_branch h ∷ cs) (c ∷ more)) ≡ filter is_ref_branch (c ∷ cs)
put_by Less h c cs more is ih = refl
put_by Equal h c cs more is ih = sym (ap (λ (o : Ordering). cond (not (is_eq o)) (c ∷ filter is_ref_branch cs) (filter is_ref_branch cs)) is)
put_by Greater h c cs more is ih = ap (λ (l : List SnapshotBranch). cond (is_ref_branch c) (c ∷ l) l) ih

put_refs : (h : List ℕ) (bs : List SnapshotBranch) → filter is_ref_branch (put_branch (head_branch h) bs) ≡ filter is_ref_branch bs
put_refs h [] = refl
put_refs h (c ∷ cs) = put_by (slice_cmp nat_cmp (codes "HEAD") c.name) h c cs (put_branch (head_branch h) cs) refl (put_refs h cs)

head_refs : (head : Option (List ℕ)) (bs : List SnapshotBranch) → filter is_ref_branch (with_head head bs) ≡ filter is_ref_branch bs
head_refs None bs = refl
head_refs (Some h) bs = put_refs h bs

count_by : (b : Bool) (e : List ℕ × Target) (es : Tips) (x : SnapshotBranch) (bs : List SnapshotBranch) → length es ≡ length bs → length (cond b (e ∷ es) es) ≡ length (cond b (x ∷ bs) bs)
count_by true e es x bs h = omega (arith, h)
count_by false e es x bs h = h

refs_count : (tips : Tips) → length (filter (λ (e : List ℕ × Target). not (is_at (slice_cmp nat_cmp (codes "HEAD")) e.0)) tips) ≡ length (filter is_ref_branch (map tip_branch tips))
refs_count [] = refl
refs_count (e ∷ es) =
    count_by (not (is_at (slice_cmp nat_cmp (codes "HEAD")) e.0)) e (filter (λ (x : List ℕ × Target). not (is_at (slice_cmp nat_cmp (codes "HEAD")) x.0)) es) (tip_branch e) (filter is_ref_branch (map tip_branch es)) (refs_count es)

refs_few : (head : Option (List ℕ)) (aims : Targets) (branches : List SnapshotBranch) → branches_of head aims ≡ branches → length (refs_of aims) ≡ length (headless branches)
refs_few head aims branches is = refs_count aims.tips ∙ ap (λ (l : List SnapshotBranch). length l) (sym (head_refs head (map tip_branch aims.tips)) ∙ ap (filter is_ref_branch) is)

to_means : (id : Kind → List ℕ → List ℕ) (head : Option (List ℕ)) (text : List ℕ) (meaning : StreamMeaning) → MeansStream id head text meaning → Means id head text meaning
unfolding Means
to_means id head text meaning m = m

module _ (id : Kind → List ℕ → List ℕ) (bodies : Bodies) (children_of : Name → Option (List Name)) (graph : IsGraphOf bodies children_of) (root : Name) (order : List Name) (is_order : IsPostorder children_of root order)
    (carried : AreCarried children_of (BreaksStream bodies root order) order) (named : AreNamed id bodies) (in_limit : AreInLimit bodies) (of_bytes : AreOfBytes bodies order) where
  abbrev Many : Type 0
  Many = LoadsMany bodies order root

  abbrev Long : Type 0
  Long = (root.kind ≢ Content) × IsLongStream bodies order root

  before : ArePreceded children_of order
  before = preceded bodies children_of graph root order is_order Many Long carried

  there : Contains order root
  there = root_there bodies children_of root order is_order Many Long carried.none

  few : Many → ⊥
  few many = carried.none root there Refs (refl, many)

  short : (text : List ℕ) → root.kind ≢ Content → IsStreamText bodies order root text → length text ≤ 2 ^ 32
  short text no_content t = elim (below_or (length text) (2 ^ 32)) [
    | inl le ↦ le
    | inr long ↦ absurd (carried.none root there Length (refl, (no_content, record { text = text; is = t; long = long })))
  ]

  -- ## What the branches are set to

  root_tips : (k : Kind) → root.kind ≡ k → (tips : List (List ℕ × Name)) → AreRootTips bodies order root k tips → (tip : List ℕ × Name) → Contains tips tip → Contains order tip.1 × (tip.1.kind ≡ RevisionKind)
  root_tips Content e tips are tip one = absurd (none_in tip (subst (λ (l : List (List ℕ × Name)). Contains l tip) are one))
  root_tips DirectoryKind e tips are tip one = absurd (none_in tip (subst (λ (l : List (List ℕ × Name)). Contains l tip) are one))
  root_tips RevisionKind e tips are tip one =
      let same = only (codes "refs/heads/main", root) tip (subst (λ (l : List (List ℕ × Name)). Contains l tip) are one) in
      let own : root ≡ tip.1 = ap (λ (p : List ℕ × Name). p.1) same in
      (subst (Contains order) own there, ap (λ (n : Name). n.kind) (sym own) ∙ e)
  root_tips ReleaseKind e tips are tip one = absurd (none_in tip (subst (λ (l : List (List ℕ × Name)). Contains l tip) are one))
  root_tips SnapshotKind e tips (branches, holds, are) tip one =
      let h = in_tips branches tip.0 tip.1 (subst (λ (l : List (List ℕ × Name)). Contains l tip) are one) in
      (target_order bodies children_of graph root order is_order before Many Long carried.none e branches holds h.0.branch tip.1 h.0.there h.0.target, h.1)

  -- ## The branches that are loaded

  record RootBranches (k : Kind) (head : Option (List ℕ)) (final : Tips) : Type 0 where
    branches : List SnapshotBranch
    loaded : AreLoadedOf bodies order root k branches
    is : with_head head (map tip_branch final) ≡ branches

  no_head : (k : Kind) → root.kind ≡ k → k ≢ SnapshotKind → (head : Option (List ℕ)) → IsHeadOf bodies root head → head ≡ None
  no_head k e other None h = refl
  no_head k e other (Some target) h = absurd (other (sym e ∙ h.kind))

  branches_by : (k : Kind) → root.kind ≡ k → k ≢ Content → k ≢ DirectoryKind → (head : Option (List ℕ)) → IsHeadOf bodies root head → (tips : List (List ℕ × Name)) → AreRootTips bodies order root k tips → (commands : List Command) (f : Finishes id bodies order root tips commands) → RootBranches k head f.making.aims.tips
  branches_by Content e c d head h tips are commands f = absurd (c refl)
  branches_by DirectoryKind e c d head h tips are commands f = absurd (d refl)
  branches_by RevisionKind e c d head h tips are commands f =
      let r = revision_tips bodies children_of graph root order is_order f.base f.set f.making.aims.tips f.is_base e (subst (λ (l : List (List ℕ × Name)). SetsAll f.base l f.set) are f.sets) f.leaves in
      let one : Name → List SnapshotBranch = λ n. record { name = codes "refs/heads/main"; target = ToObject n } ∷ [] in
      record {
        branches = main_branch root ∷ [];
        loaded = refl;
        is = ap (λ (x : Option (List ℕ)). with_head x (map tip_branch f.making.aims.tips)) (no_head RevisionKind e (λ z. cc) head h) ∙ ap (map tip_branch) r.2 ∙ ap one r.1;
      }
  branches_by ReleaseKind e c d head h tips are commands f =
      let r = release_tips bodies children_of graph root order is_order f.base f.set f.making.aims.tips f.is_base e (subst (λ (l : List (List ℕ × Name)). SetsAll f.base l f.set) are f.sets) f.leaves in
      record {
        branches = map branch_of_tag f.is_base.tags;
        loaded = (f.is_base.tags, f.is_base.set, refl);
        is = ap (λ (x : Option (List ℕ)). with_head x (map tip_branch f.making.aims.tips)) (no_head ReleaseKind e (λ z. cc) head h) ∙ ap (map tip_branch) r ∙ f.is_base.named;
      }
  branches_by SnapshotKind e c d head h tips (branches, holds, are) commands f =
      record {
        branches = branches;
        loaded = holds;
        is =
            ap (with_head head) (tips_are bodies children_of graph root order is_order before Many Long carried.none e branches holds f.base f.set f.making.aims.tips f.is_base (subst (λ (l : List (List ℕ × Name)). SetsAll f.base l f.set) are f.sets) f.sorted_set f.leaves f.sorted)
            ∙ with_head_is bodies children_of graph root order is_order before Many Long carried.none e branches holds head h;
      }

  -- ## What the snapshot is

  as_by : (k : Kind) → root.kind ≡ k → k ≢ Content → k ≢ DirectoryKind → (branches : List SnapshotBranch) → AreLoadedOf bodies order root k branches → (snapshot : List ℕ) → snapshot ≡ id SnapshotKind (snapshot_text branches) → LoadsAs id bodies root k snapshot
  as_by Content e c d branches l snapshot is = absurd (c refl)
  as_by DirectoryKind e c d branches l snapshot is = absurd (d refl)
  as_by RevisionKind e c d branches l snapshot is = is ∙ ap (λ (bs : List SnapshotBranch). id SnapshotKind (snapshot_text bs)) l
  as_by ReleaseKind e c d branches (tags, set, are) snapshot is =
      let last = root_last children_of root order is_order in
      let r = release_held bodies children_of graph root order is_order before Many Long carried.none root there e in
      let found = tag_last bodies last.0 [] tags root r.0 (subst (λ (l : List Name). SetTags bodies l [] tags) last.1 set) e r.1 in
      let tagged = in_map branch_of_tag tags (r.0.tag, root.id) (in-found (slice_cmp nat_cmp) nat_list_cmp_total text_exact tags r.0.tag root.id found) in
      let own : release_name root.id ≡ root = name_of root ReleaseKind root.id e refl in
      let branch : Name → SnapshotBranch = λ n. record { name = tag_branch r.0.tag; target = ToObject n } in
      record {
        branches = branches;
        is = is;
        release = r.0;
        holds = r.1;
        there = subst (λ (bs : List SnapshotBranch). Contains bs (branch root)) (sym are) (subst (λ (n : Name). Contains (map branch_of_tag tags) (branch n)) own tagged);
      }
  as_by SnapshotKind e c d branches holds snapshot is = is ∙ ap (id SnapshotKind) (sym holds.is.text) ∙ ap (λ (k : Kind). id k holds.body) (sym e) ∙ sym (named root holds.body holds.held)

  -- ## All of it

  pub loads_back : root.kind ≢ Content → root.kind ≢ DirectoryKind → (text : List ℕ) → IsStreamText bodies order root text → (head : Option (List ℕ)) → IsHeadOf bodies root head → LoadsBack id bodies order root head text
  loads_back no_content no_directory text t head h =
      let s = is_stream bodies children_of graph root order is_order Many Long carried in_limit of_bytes text t (short text no_content t) in
      let c = s.1 in
      let full = no_empty bodies children_of root order is_order Many Long carried.none in
      let stand_once = once bodies children_of graph root order is_order Many Long carried in
      let a = all_made id bodies order stand_once children_of graph before named full c.objects c.are_objects in
      let tips_in = root_tips root.kind refl c.tips c.are_tips in
      let f = finishes id bodies order root c.objects c.resets c.last c.tips a.making a.makes a.carries (made_held id bodies order stand_once children_of graph before named full a.making a.carries) c.are_resets
      (λ tip one. a.carries.marks tip.1 (tips_in tip one).0 (ap is_written_kind (tips_in tip one).1)) (λ tip one. (tips_in tip one).1) c.are_last in
      let b = branches_by root.kind refl no_content no_directory head h c.tips c.are_tips (c.objects ++ (c.resets ++ c.last)) f in
      let not_many : AreMany b.branches → ⊥ = λ m. few (record { branches = b.branches; loaded = b.loaded; many = m }) in
      let made : Made = snapshot_of head f.making.aims in
      let text_is : snapshot_text (branches_of head f.making.aims) ≡ snapshot_text b.branches = ap snapshot_text b.is in
      let meaning : StreamMeaning = record { objects = objects_in id f.making ++ made ∷ []; snapshot = id SnapshotKind made.body } in
      let named_so : meaning.snapshot ≡ id SnapshotKind (snapshot_text b.branches) = ap (id SnapshotKind) text_is in
      let out : AreCarriedOut id s.0 f.making = record {
        makes = ap (steps id no_making) c.is ∙ f.makes;
        short = λ m makes. (let held = f.held m makes in in_limit held.name m.body held.held);
      } in
      let ends : EndsWithin id head f.making = record {
        refs = let count = refs_few head f.making.aims b.branches b.is in elim (below_or (length (headless b.branches)) 65536) [ inl le ↦ omega (arith, le, count) | inr many ↦ absurd (not_many (inl many)) ];
        body = elim (below_or (length (snapshot_text b.branches)) body_limit) [ inl le ↦ omega (arith, le, ap length text_is) | inr long ↦ absurd (not_many (inr long)) ];
      } in
      let meant : IsMeant id head f.making meaning = record {
        objects = λ m. (
          λ one. elim (Contains-append_cases (objects_in id f.making) (made ∷ []) m one) [ inl own ↦ inl (in_made id f.making m own) | inr last ↦ inr (sym (only made m last)) ],
          λ is. elim is [
            | inl makes ↦ Contains-append_left (objects_in id f.making) (made ∷ []) m (made_in id f.making m makes)
            | inr same ↦ subst (Contains (objects_in id f.making ++ made ∷ [])) (sym same) (Contains-append_right (objects_in id f.making) (made ∷ []) made (in_first made []))
          ],
        );
        snapshot = refl;
      } in
      record {
        meaning = meaning;
        means = to_means id head text meaning (record { commands = s.0; making = f.making; stream = s.2; carried = out; within = ends; meant = meant });
        as_root = as_by root.kind refl no_content no_directory b.branches b.loaded meaning.snapshot named_so;
        branches = b.branches;
        loaded = b.loaded;
        snapshot = named_so;
        objects = λ o one. elim (Contains-append_cases (objects_in id f.making) (made ∷ []) o one) [
          | inl own ↦ inl (f.held o (in_made id f.making o own))
          | inr last ↦ inr (sym (only made o last) ∙ (let body : List ℕ → Made = λ x. record { kind = SnapshotKind; body = x } in ap body text_is))
        ];
      }
