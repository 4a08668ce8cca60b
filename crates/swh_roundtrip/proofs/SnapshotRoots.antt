-- The tips at the end of the stream of a snapshot are its branches.
use Rattle.std.proofs.Common.{◌≡◌, ◌≢◌, ◌⊎◌, inl, inr, ℕ, Bool, true, false, cond, List, [], ◌∷◌, ◌++◌, map, Option, Some, None, Contains, refl, sym, ap, ◌∙◌, subst, arith, codes}
use Rattle.std.specs.List.{AllByRecursion, flat_map, filter_map, cons_option}
use Rattle.std.specs.Ordering.{nat_cmp}
use Rattle.std.specs.declared.cmp.Ordering.TheVariants.{Less}
use Rattle.std.specs.Cmp.Lexicographic.{slice_cmp}
use Rattle.std.specs.BTreeMap.{insert_entry, is_at}
use Rattle.std.specs.Map.{lookup}
use Rattle.std.proofs.lemmas.Cmp.{nat_list_cmp_total}
use Rattle.swh_base.specs.declared.kind.Kind.{Kind}
use Rattle.swh_base.specs.declared.kind.Kind.TheVariants.{Content, Directory as DirectoryKind, Revision as RevisionKind, Release as ReleaseKind, Snapshot as SnapshotKind}
use Rattle.swh_base.specs.declared.name.Name.{Name}
use Rattle.swh_base.specs.Manifest.{AreChildren}
use Rattle.swh_base.specs.Release.{Release}
use Rattle.swh_base.specs.Snapshot.{SnapshotBranch, BranchTarget, ToObject, ToBranch, ToNothing, IsSnapshot, branch_child}
use Rattle.swh_base.proofs.SnapshotLemmas.{one_snapshot}
use Rattle.swh_base.proofs.Elementary.{none_in}
use Rattle.swh_model.specs.Archive.{Bodies, IsGraphOf}
use Rattle.swh_model.specs.Meaning.{head_branch, with_head}
use Rattle.swh_graph.specs.Holding.{HoldsSnapshot, HoldsRelease}
use Rattle.swh_graph.proofs.Lists.{in_first, in_rest, in_cases}
use Rattle.swh_postorder.specs.Cycle.{ArePreceded}
use Rattle.swh_postorder.specs.Postorder.{IsPostorder}
use Rattle.swh_postorder.proofs.Orders.{order_are, order_closed}
use Rattle.swh_carried.specs.declared.fault.Why.TheVariants.{Tagless}
use Rattle.swh_carried.specs.Uncarried.{BreaksNone}
use Rattle.swh_fastcarried.specs.Rules.{tag_branch, IsCarriedObject, IsCarriedTarget, StandsAtBranch, BreaksIn}
use Rattle.swh_fastcarried.proofs.Reaching.{same_object}
use Rattle.swh_fastwrite.specs.Text.{cook_branch}
use Rattle.swh_fastcook.specs.Ends.{HasRevision}
use Rattle.swh_fastcook.specs.Stream.{LeavesBranch}
use Rattle.swh_fastmeaning.specs.Commands.{Target}
use Rattle.swh_fastmeaning.specs.Snapshots.{tip_branch}
use Rattle.swh_roundtrip.specs.Commands.{branch_tips}
use Rattle.swh_fastcook.specs.Cook.{IsHeadOf}
use Rattle.swh_fastcook.specs.Loaded.{release_name}
use Rattle.swh_roundtrip.proofs.AimMaps.{not_at, insert-own, insert-other, remove-own, remove-other, in-found, found-in, same-entries}
use Rattle.swh_roundtrip.proofs.Tipping.{Tips, TipsAre, IsCook}
use Rattle.swh_roundtrip.proofs.Endings.{SetsAll, Leaves}
use Rattle.swh_roundtrip.proofs.GoodRows.{kid_in, more_in, same_body}
use Rattle.swh_roundtrip.proofs.GoodObjects.{no_odd, root_there}
use Rattle.swh_roundtrip.proofs.Steps.{AreSorted, name_of}
use Rattle.swh_roundtrip.proofs.TagLookups.{text_exact, same_text, some_is, rest_found, tag_found, one_held, tag_sound, tag_full}
use Rattle.swh_roundtrip.proofs.Branching.{Pairs, PairsSorted, pairs, to_branch, HasBranch, in_pairs, to_pairs, pairs_sorted, one_branch, find_branch, target_is, in_tips, to_tips, without_head, put_head}

abbrev at_key : List ℕ → Tips → Option Target
at_key q tips = lookup (is_at (slice_cmp nat_cmp q)) tips

-- This name stands there.
record Finds (tips : Tips) (q : List ℕ) (n : Name) : Type 0 where
  tip : Target
  found : at_key q tips ≡ Some tip
  named : tip.name ≡ n

-- ## Branches that are set

set_one : (old : Tips) (key q : List ℕ) (aim : Target) (n : Name) → key ≡ q → aim.name ≡ n → Finds (insert_entry (slice_cmp nat_cmp) old key aim) q n
set_one old key q aim n same is = record { tip = aim; found = subst (λ (k : List ℕ). at_key k (insert_entry (slice_cmp nat_cmp) old key aim) ≡ Some aim) same (insert-own (slice_cmp nat_cmp) nat_list_cmp_total text_exact old key aim); named = is }

kept_one : (old : Tips) (key q : List ℕ) (aim : Target) (n : Name) → q ≢ key → Finds old q n → Finds (insert_entry (slice_cmp nat_cmp) old key aim) q n
kept_one old key q aim n other f = record { tip = f.tip; found = insert-other (slice_cmp nat_cmp) nat_list_cmp_total text_exact old key q aim other ∙ f.found; named = f.named }

sets_kept : (tips : Pairs) (old new : Tips) (q : List ℕ) (n : Name) → SetsAll old tips new → Finds old q n → ((m : Name) → Contains tips (q, m) → m ≡ n) → Finds new q n
sets_kept [] old new q n s f only_n = subst (λ (x : Tips). Finds x q n) (sym s) f
sets_kept (tip ∷ tips) old new q n (aim, is, more) f only_n =
    let next : Finds (insert_entry (slice_cmp nat_cmp) old tip.0 aim) q n = elim (same_text q tip.0) [
      | inl same ↦ set_one old tip.0 q aim n (sym same) (is ∙ only_n tip.1 (subst (λ (k : List ℕ). Contains (tip ∷ tips) (k, tip.1)) (sym same) (in_first tip tips)))
      | inr other ↦ kept_one old tip.0 q aim n other f
    ] in
    sets_kept tips (insert_entry (slice_cmp nat_cmp) old tip.0 aim) new q n more next (λ m there. only_n m (in_rest tip tips (q, m) there))

sets_full : (tips : Pairs) (old new : Tips) (q : List ℕ) (n : Name) → SetsAll old tips new → Contains tips (q, n) → ((m : Name) → Contains tips (q, m) → m ≡ n) → Finds new q n
sets_full [] old new q n s there only_n = absurd (none_in (q, n) there)
sets_full (tip ∷ tips) old new q n (aim, is, more) there only_n =
    elim (in_cases tip tips (q, n) there) [
      | inl same ↦ sets_kept tips (insert_entry (slice_cmp nat_cmp) old tip.0 aim) new q n more
          (set_one old tip.0 q aim n (ap (λ (p : List ℕ × Name). p.0) same) (is ∙ ap (λ (p : List ℕ × Name). p.1) same)) (λ m one. only_n m (in_rest tip tips (q, m) one))
      | inr later ↦ sets_full tips (insert_entry (slice_cmp nat_cmp) old tip.0 aim) new q n more later (λ m one. only_n m (in_rest tip tips (q, m) one))
    ]

sets_sound : (tips : Pairs) (old new : Tips) (q : List ℕ) (t : Target) → SetsAll old tips new → at_key q new ≡ Some t → (at_key q old ≡ Some t) ⊎ ((m : Name) × Contains tips (q, m) × (t.name ≡ m))
sets_sound [] old new q t s found = inl (ap (at_key q) (sym s) ∙ found)
sets_sound (tip ∷ tips) old new q t (aim, is, more) found =
    elim (sets_sound tips (insert_entry (slice_cmp nat_cmp) old tip.0 aim) new q t more found) [
      | inr (m, there, named) ↦ inr (m, in_rest tip tips (q, m) there, named)
      | inl was ↦ elim (same_text q tip.0) [
        | inl same ↦
            let own = set_one old tip.0 q aim tip.1 (sym same) is in
            inr (tip.1, subst (λ (k : List ℕ). Contains (tip ∷ tips) (k, tip.1)) (sym same) (in_first tip tips), ap (λ (x : Target). x.name) (some_is t own.tip (sym was ∙ own.found)) ∙ own.named)
        | inr other ↦ inl (sym (insert-other (slice_cmp nat_cmp) nat_list_cmp_total text_exact old tip.0 q aim other) ∙ was)
      ]
    ]

-- ## The tips of objects

base_rest : (order : List Name) (cook rest : Tips) (tag : List ℕ) → IsCook order cook → at_key (tag_branch tag) (cook ++ rest) ≡ at_key (tag_branch tag) rest
base_rest order cook rest tag (inl none) = ap (λ (c : Tips). at_key (tag_branch tag) (c ++ rest)) none
base_rest order cook rest tag (inr (t, one, has)) = ap (λ (c : Tips). at_key (tag_branch tag) (c ++ rest)) one

other_rest : (order : List Name) (cook rest : Tips) (q : List ℕ) (t : Target) → IsCook order cook → at_key q (cook ++ rest) ≡ Some t → (at_key q rest ≡ Some t) ⊎ ((q ≡ cook_branch) × HasRevision order)
other_rest order cook rest q t (inl none) found = inl (ap (λ (c : Tips). at_key q (c ++ rest)) (sym none) ∙ found)
other_rest order cook rest q t (inr (s, one, has)) found = elim (same_text q cook_branch) [
  | inl same ↦ inr (same, has)
  | inr other ↦
      inl (sym (ap (λ (b : Bool). cond b (Some s) (at_key q rest)) (not_at (slice_cmp nat_cmp) nat_list_cmp_total text_exact q cook_branch other)) ∙ ap (λ (c : Tips). at_key q (c ++ rest)) (sym one) ∙ found)
]

-- ## Names of tips

abbrev pub names : Tips → Pairs
names [] = []
names (e ∷ es) = (e.0, e.1.name) ∷ names es

pub names_branches : (tips : Tips) → map tip_branch tips ≡ map to_branch (names tips)
names_branches [] = refl
names_branches (e ∷ es) = ap (λ (l : List SnapshotBranch). tip_branch e ∷ l) (names_branches es)

abbrev name_at : Option Target → Option Name
name_at None = None
name_at (Some t) = Some t.name

names_by : (b : Bool) (t : Target) (o : Option Name) (p : Option Target) → o ≡ name_at p → cond b (Some t.name) o ≡ name_at (cond b (Some t) p)
names_by true t o p h = refl
names_by false t o p h = h

names_found : (tips : Tips) (q : List ℕ) → lookup (is_at (slice_cmp nat_cmp q)) (names tips) ≡ name_at (at_key q tips)
names_found [] q = refl
names_found (e ∷ es) q = names_by (is_at (slice_cmp nat_cmp q) e.0) e.1 (lookup (is_at (slice_cmp nat_cmp q)) (names es)) (at_key q es) (names_found es q)

names_after : (k : List ℕ) (tips : Tips) → AllByRecursion (λ (x : List ℕ × Target). slice_cmp nat_cmp k x.0 ≡ Less) tips → AllByRecursion (λ (x : List ℕ × Name). slice_cmp nat_cmp k x.0 ≡ Less) (names tips)
names_after k [] h = tt
names_after k (e ∷ es) h = (h.0, names_after k es h.1)

names_sorted : (tips : Tips) → AreSorted tips → PairsSorted (names tips)
names_sorted [] s = tt
names_sorted (e ∷ es) s = (names_after e.0 es s.0, names_sorted es s.1)

-- ## Children of a snapshot

child_target : (b : SnapshotBranch) (n : Name) → b.target ≡ ToObject n → branch_child b ≡ Some n
child_target b n e = ap (λ (t : BranchTarget). elim t [ ToObject m ↦ Some m | ToBranch other ↦ None | ToNothing ↦ None ]) e

in_children : (bs : List SnapshotBranch) (b : SnapshotBranch) (n : Name) → Contains bs b → b.target ≡ ToObject n → Contains (filter_map branch_child bs) n
in_children [] b n there e = absurd (none_in b there)
in_children (x ∷ xs) b n there e = elim (in_cases x xs b there) [
  | inl same ↦ subst (λ (o : Option Name). Contains (cons_option o (filter_map branch_child xs)) n) (sym (ap branch_child same ∙ child_target b n e)) (in_first n (filter_map branch_child xs))
  | inr later ↦ more_in (branch_child x) (filter_map branch_child xs) n (in_children xs b n later e)
]

module _ (bodies : Bodies) (children_of : Name → Option (List Name)) (graph : IsGraphOf bodies children_of) (root : Name) (order : List Name) (is_order : IsPostorder children_of root order) (preceded : ArePreceded children_of order)
    (many long : Type 0) (none : (n : Name) → Contains order n → BreaksNone (BreaksIn bodies root order many long) n) where
  -- a release that is reached is held
  pub release_held : (n : Name) → Contains order n → n.kind ≡ ReleaseKind → (r : Release) × HoldsRelease bodies n r
  release_held n there kind =
      let has_kids = order_closed children_of root order is_order n ((order_are children_of root order is_order n).0 there) in
      let has = graph.held n has_kids.0 has_kids.1 in
      let are = subst (λ (k : Kind). AreChildren k has.0 has_kids.0) kind has.2 in
      (are.release, record { body = has.0; held = has.1; is = are.is })

  module _ (kind : root.kind ≡ SnapshotKind) (branches : List SnapshotBranch) (holds : HoldsSnapshot bodies root branches) where
    same_branches : (bs : List SnapshotBranch) → HoldsSnapshot bodies root bs → bs ≡ branches
    same_branches bs h = one_snapshot holds.body bs branches (subst (λ (b : List ℕ). IsSnapshot b bs) (same_body h.body holds.body (sym h.held ∙ holds.held)) h.is) holds.is

    snapshot_by : (found : Option (List Name)) → children_of root ≡ found → children_of root ≡ Some (filter_map branch_child branches)
    snapshot_by None missing = let e : Some holds.body ≡ None = sym holds.held ∙ graph.missing root missing in cc
    snapshot_by (Some kids) found =
        let has = graph.held root kids found in
        let same = same_body has.0 holds.body (sym has.1 ∙ holds.held) in
        let are = subst (λ (k : Kind). AreChildren k has.0 kids) kind has.2 in
        let given : List Name → Option (List Name) = λ ns. Some ns in
        found ∙ ap given (are.kids ∙ ap (filter_map branch_child) (one_snapshot holds.body are.branches branches (subst (λ (b : List ℕ). IsSnapshot b are.branches) same are.is) holds.is))

    pub target_order : (b : SnapshotBranch) (n : Name) → Contains branches b → b.target ≡ ToObject n → Contains order n
    target_order b n there e =
        kid_in bodies children_of graph order preceded root n (root_there bodies children_of root order is_order many long none)
        (record { kids = filter_map branch_child branches; held = snapshot_by (children_of root) refl; one_of = in_children branches b n there e })

    -- what is not carried is not there
    not_odd : (b : SnapshotBranch) → Contains branches b → (IsCarriedTarget bodies b.name b.target → ⊥) → ⊥
    not_odd b there odd = no_odd bodies children_of root order is_order many long none kind (record { branches = branches; holds = holds; odd = record { branch = b; there = there; odd = odd } })

    carried_as : (b : SnapshotBranch) (n : Name) (k : Kind) → b.target ≡ ToObject n → n.kind ≡ k → IsCarriedTarget bodies b.name b.target → IsCarriedObject bodies b.name n k
    carried_as b n k e is c = subst (IsCarriedObject bodies b.name n) is (subst (IsCarriedTarget bodies b.name) e c)

    written_by : (b : SnapshotBranch) (n : Name) (k : Kind) → Contains branches b → b.target ≡ ToObject n → n.kind ≡ k → (n.kind ≡ RevisionKind) ⊎ (n.kind ≡ ReleaseKind)
    written_by b n Content there e is = absurd (not_odd b there (carried_as b n Content e is))
    written_by b n DirectoryKind there e is = absurd (not_odd b there (carried_as b n DirectoryKind e is))
    written_by b n RevisionKind there e is = inl is
    written_by b n ReleaseKind there e is = inr is
    written_by b n SnapshotKind there e is = absurd (not_odd b there (carried_as b n SnapshotKind e is))

    own_branch : (b : SnapshotBranch) (n : Name) (r : Release) → Contains branches b → b.target ≡ ToObject n → n.kind ≡ ReleaseKind → HoldsRelease bodies n r → b.name ≡ tag_branch r.tag
    own_branch b n r there e is h = elim (same_text b.name (tag_branch r.tag)) [
      | inl same ↦ same
      | inr other ↦ absurd (not_odd b there (λ c. (let own = carried_as b n ReleaseKind e is c in other (own.own ∙ ap (λ (x : Release). tag_branch x.tag) (one_held bodies n own.release r own.holds h)))))
    ]

    alias_name : (b : SnapshotBranch) (other : List ℕ) → Contains branches b → b.target ≡ ToBranch other → b.name ≡ codes "HEAD"
    alias_name b other there e = elim (same_text b.name (codes "HEAD")) [
      | inl same ↦ same
      | inr differ ↦ absurd (not_odd b there (λ c. differ (subst (IsCarriedTarget bodies b.name) e c).0))
    ]

    no_dangling : (b : SnapshotBranch) → Contains branches b → b.target ≡ ToNothing → ⊥
    no_dangling b there e = not_odd b there (λ c. subst (IsCarriedTarget bodies b.name) e c)

    -- each release that is reached stands at its own branch
    stands : (n : Name) (r : Release) → Contains order n → n.kind ≡ ReleaseKind → HoldsRelease bodies n r → HasBranch branches (tag_branch r.tag) n
    stands n r there is h = elim (find_branch branches (tag_branch r.tag)) [
      | inr nobody ↦ absurd (none n there Tagless (kind, is, λ s. nobody s.branch (in_branches s) (named s)))
      | inl (b, one, name) ↦ elim (target_is b.target n) [
        | inl target ↦ record { branch = b; there = one; name = name; target = target }
        | inr differs ↦ absurd (none n there Tagless (kind, is, λ s. differs (ap (λ (x : SnapshotBranch). x.target) (one_branch branches b s.branch holds.is.good one (in_branches s) (name ∙ sym (named s))) ∙ s.target)))
      ]
    ]
      where
        in_branches : (s : StandsAtBranch bodies root n) → Contains branches s.branch
        in_branches s = subst (λ (l : List SnapshotBranch). Contains l s.branch) (same_branches s.branches s.holds) s.there

        named : (s : StandsAtBranch bodies root n) → s.branch.name ≡ tag_branch r.tag
        named s = s.own.own ∙ ap (λ (x : Release). tag_branch x.tag) (one_held bodies n s.own.release r s.own.holds h)

    one_tip : (b : SnapshotBranch) (n : Name) → Contains branches b → b.target ≡ ToObject n → (m : Name) → Contains (flat_map branch_tips branches) (b.name, m) → m ≡ n
    one_tip b n there e m one =
        let h = (in_tips branches b.name m one).0 in
        let same : h.branch ≡ b = one_branch branches h.branch b holds.is.good h.there there h.name in
        same_object m n (sym h.target ∙ ap (λ (x : SnapshotBranch). x.target) same ∙ e)

    module _ (base set final : Tips) (is_base : TipsAre bodies order base) (sets : SetsAll base (flat_map branch_tips branches) set) (sorted_set : AreSorted set) (leaves : Leaves (LeavesBranch bodies order root) set final) (sorted : AreSorted final) where
      -- what a tag was set to stands at its own branch
      tag_branch_of : (tag i : List ℕ) → lookup (is_at (slice_cmp nat_cmp tag)) is_base.tags ≡ Some i → HasBranch branches (tag_branch tag) (release_name i)
      tag_branch_of tag i found = elim (tag_sound bodies order [] is_base.tags tag i is_base.set found) [
        | inl was ↦ absurd cc
        | inr s ↦
            let h = stands s.name s.release s.there s.kind s.holds in
            let same : release_name i ≡ s.name = name_of s.name ReleaseKind i s.kind s.id in
            record { branch = h.branch; there = h.there; name = h.name ∙ ap tag_branch s.tagged; target = h.target ∙ ap ToObject (sym same) }
      ]

      release_base : (b : SnapshotBranch) (n : Name) → Contains branches b → b.target ≡ ToObject n → n.kind ≡ ReleaseKind → Finds base b.name n
      release_base b n there e is =
          let r = release_held n (target_order b n there e) is in
          let name = own_branch b n r.0 there e is r.1 in
          let j = tag_full bodies order [] is_base.tags n r.0 is_base.set (target_order b n there e) is r.1 in
          let tip = tag_found is_base.rest is_base.tags r.0.tag j.0 is_base.named j.1 in
          let h = tag_branch_of r.0.tag j.0 j.1 in
          let same : h.branch ≡ b = one_branch branches h.branch b holds.is.good h.there there (h.name ∙ sym name) in
          let own : release_name j.0 ≡ n = same_object (release_name j.0) n (sym h.target ∙ ap (λ (x : SnapshotBranch). x.target) same ∙ e) in
          record {
            tip = tip.tip;
            found = ap (λ (k : List ℕ). at_key k base) name ∙ ap (at_key (tag_branch r.0.tag)) is_base.cut ∙ base_rest order is_base.cook is_base.rest r.0.tag is_base.is_cook ∙ tip.found;
            named = tip.named ∙ own;
          }

      in_set : (b : SnapshotBranch) (n : Name) → Contains branches b → b.target ≡ ToObject n → Finds set b.name n
      in_set b n there e = elim (written_by b n n.kind there e refl) [
        | inl is ↦ sets_full (flat_map branch_tips branches) base set b.name n sets (to_tips branches b n there e is) (one_tip b n there e)
        | inr is ↦ sets_kept (flat_map branch_tips branches) base set b.name n sets (release_base b n there e is) (one_tip b n there e)
      ]

      -- each branch to an object is a tip
      in_final : (b : SnapshotBranch) (n : Name) → Contains branches b → b.target ≡ ToObject n → Finds final b.name n
      in_final b n there e =
          let f = in_set b n there e in
          elim leaves [
            | inr (stays, same) ↦ record { tip = f.tip; found = ap (at_key b.name) same ∙ f.found; named = f.named }
            | inl (l, gone) ↦ record {
              tip = f.tip;
              found = ap (at_key b.name) gone ∙ remove-other (slice_cmp nat_cmp) nat_list_cmp_total text_exact set cook_branch b.name (l.free kind branches holds b there) ∙ f.found;
              named = f.named;
            }
          ]

      head_differs : cook_branch ≡ codes "HEAD" → ⊥
      head_differs e = differs (first cook_branch) (first (codes "HEAD")) refl refl (ap first e)
        where
          first : List ℕ → ℕ
          first [] = 0
          first (c ∷ text) = c

          differs : (a b : ℕ) → a ≡ 114 → b ≡ 72 → a ≡ b → ⊥
          differs a b p q same = omega (arith, p, q, same)

      -- the branch of all commits is left only where it is one of the branches
      cook_stays : (t : Target) → (LeavesBranch bodies order root → ⊥) → HasRevision order → at_key cook_branch final ≡ Some t → HasBranch branches cook_branch t.name
      cook_stays t stays has found = elim (find_branch branches cook_branch) [
        | inr nobody ↦ absurd (stays (record { commit = has.commit; there = has.there; kind = has.kind; free = λ e bs h b there. nobody b (subst (λ (l : List SnapshotBranch). Contains l b) (same_branches bs h) there) }))
        | inl (b, there, name) ↦ by_target b there name b.target refl
      ]
        where
          by_target : (b : SnapshotBranch) → Contains branches b → b.name ≡ cook_branch → (x : BranchTarget) → b.target ≡ x → HasBranch branches cook_branch t.name
          by_target b there name (ToObject n) e =
              let f = in_final b n there e in
              let same : f.tip ≡ t = some_is f.tip t (sym f.found ∙ ap (λ (k : List ℕ). at_key k final) name ∙ found) in
              record { branch = b; there = there; name = name; target = e ∙ ap ToObject (sym f.named ∙ ap (λ (x : Target). x.name) same) }
          by_target b there name (ToBranch other) e = absurd (head_differs (sym name ∙ alias_name b other there e))
          by_target b there name ToNothing e = absurd (no_dangling b there e)

      base_branch : (q : List ℕ) (t : Target) → at_key q base ≡ Some t → HasBranch branches q t.name ⊎ ((q ≡ cook_branch) × HasRevision order)
      base_branch q t found = elim (other_rest order is_base.cook is_base.rest q t is_base.is_cook (ap (at_key q) (sym is_base.cut) ∙ found)) [
        | inr is ↦ inr is
        | inl rest ↦
            let r = rest_found is_base.rest is_base.tags q t is_base.named rest in
            let h = tag_branch_of r.tag r.id r.found in
            inl (record { branch = h.branch; there = h.there; name = h.name ∙ sym r.key; target = h.target ∙ ap ToObject (sym r.named) })
      ]

      set_branch : (q : List ℕ) (t : Target) → at_key q set ≡ Some t → HasBranch branches q t.name ⊎ ((q ≡ cook_branch) × HasRevision order)
      set_branch q t found = elim (sets_sound (flat_map branch_tips branches) base set q t sets found) [
        | inl was ↦ base_branch q t was
        | inr (m, there, named) ↦ let h = (in_tips branches q m there).0 in inl (record { branch = h.branch; there = h.there; name = h.name; target = h.target ∙ ap ToObject (sym named) })
      ]

      -- and each tip is that of a branch to an object
      final_branch : (q : List ℕ) (t : Target) → at_key q final ≡ Some t → HasBranch branches q t.name
      final_branch q t found = elim leaves [
        | inr (stays, same) ↦ elim (set_branch q t (ap (at_key q) (sym same) ∙ found)) [
          | inl h ↦ h
          | inr (is, has) ↦ subst (λ (k : List ℕ). HasBranch branches k t.name) (sym is) (cook_stays t stays has (ap (λ (k : List ℕ). at_key k final) (sym is) ∙ found))
        ]
        | inl (l, gone) ↦ elim (same_text q cook_branch) [
          | inl is ↦
              let lost : at_key cook_branch final ≡ None = ap (at_key cook_branch) gone ∙ remove-own (slice_cmp nat_cmp) nat_list_cmp_total text_exact set cook_branch sorted_set in
              absurd (let bad : None ≡ Some t = sym lost ∙ ap (λ (k : List ℕ). at_key k final) (sym is) ∙ found in cc)
          | inr other ↦ elim (set_branch q t (sym (remove-other (slice_cmp nat_cmp) nat_list_cmp_total text_exact set cook_branch q other) ∙ ap (at_key q) (sym gone) ∙ found)) [
            | inl h ↦ h
            | inr (is, has) ↦ absurd (other is)
          ]
        ]
      ]

      same_at : (q : List ℕ) (o : Option Name) (p : Option Target) → lookup (is_at (slice_cmp nat_cmp q)) (pairs branches) ≡ o → at_key q final ≡ p → lookup (is_at (slice_cmp nat_cmp q)) (names final) ≡ lookup (is_at (slice_cmp nat_cmp q)) (pairs branches)
      same_at q (Some n) p e f =
          let h = in_pairs branches q n (in-found (slice_cmp nat_cmp) nat_list_cmp_total text_exact (pairs branches) q n e) in
          let k = in_final h.branch n h.there h.target in
          let own : Option Name → Type 0 = λ x. x ≡ Some n in
          names_found final q ∙ ap name_at (ap (λ (x : List ℕ). at_key x final) (sym h.name) ∙ k.found) ∙ (let some : Name → Option Name = λ m. Some m in ap some k.named) ∙ sym e
      same_at q None None e f = names_found final q ∙ ap name_at f ∙ sym e
      same_at q None (Some t) e f =
          let h = final_branch q t f in
          let there = to_pairs branches h.branch t.name h.there h.target in
          let found = found-in (slice_cmp nat_cmp) nat_list_cmp_total text_exact (pairs branches) h.branch.name t.name (pairs_sorted branches holds.is.good) there in
          absurd (let bad : None ≡ Some t.name = sym e ∙ ap (λ (k : List ℕ). lookup (is_at (slice_cmp nat_cmp k)) (pairs branches)) (sym h.name) ∙ found in cc)

      -- The tips are the branches to objects.
      pub tips_are : map tip_branch final ≡ map to_branch (pairs branches)
      tips_are =
          names_branches final
          ∙ ap (map to_branch) (same-entries (slice_cmp nat_cmp) nat_list_cmp_total text_exact (names final) (pairs branches) (names_sorted final sorted) (pairs_sorted branches holds.is.good) (λ q. same_at q (lookup (is_at (slice_cmp nat_cmp q)) (pairs branches)) (at_key q final) refl refl))

    -- ## The head

    head_is : (b : SnapshotBranch) (other : List ℕ) → Contains branches b → b.target ≡ ToBranch other → b ≡ head_branch other
    head_is b other there e =
        let by_name : List ℕ → SnapshotBranch = λ n. record { name = n; target = b.target } in
        let by_target : BranchTarget → SnapshotBranch = λ t. record { name = codes "HEAD"; target = t } in
        ap by_name (alias_name b other there e) ∙ ap by_target e

    pub with_head_is : (head : Option (List ℕ)) → IsHeadOf bodies root head → with_head head (map to_branch (pairs branches)) ≡ branches
    with_head_is None h = without_head branches (λ b there. by_target b there b.target refl)
      where
        by_target : (b : SnapshotBranch) → Contains branches b → (x : BranchTarget) → b.target ≡ x → (n : Name) × (b.target ≡ ToObject n)
        by_target b there (ToObject n) e = (n, e)
        by_target b there (ToBranch other) e = absurd (h other (record { kind = kind; branches = branches; holds = holds; there = subst (Contains branches) (head_is b other there e) there }))
        by_target b there ToNothing e = absurd (no_dangling b there e)
    with_head_is (Some head) h = put_head head branches holds.is.good at_head (λ b there. by_target b there b.target refl)
      where
        at_head : Contains branches (head_branch head)
        at_head = subst (λ (l : List SnapshotBranch). Contains l (head_branch head)) (same_branches h.branches h.holds) h.there

        by_target : (b : SnapshotBranch) → Contains branches b → (x : BranchTarget) → b.target ≡ x → (b ≡ head_branch head) ⊎ ((n : Name) × (b.target ≡ ToObject n))
        by_target b there (ToObject n) e = inr (n, e)
        by_target b there (ToBranch other) e = inl (one_branch branches b (head_branch head) holds.is.good there at_head (alias_name b other there e))
        by_target b there ToNothing e = absurd (no_dangling b there e)
