-- Branches on both sides of `HEAD`.
use Rattle.std.proofs.Common.{◌≡◌, ◌≢◌, ◌⊎◌, inl, inr, ℕ, ◌+◌, ◌≤◌, Bool, true, false, not, cond, Option, Some, None, Result, Ok, Err, IfOk, List, [], ◌∷◌, ◌++◌, length, map, codes, Contains, refl, sym, ap, ◌∙◌, subst, arith, append_assoc}
use Rattle.std.specs.Prelude.{filter}
use Rattle.std.specs.List.{AllByRecursion}
use Rattle.std.specs.Ordering.{nat_cmp, is_lt, is_eq, match_ordering, ordering_reverse}
use Rattle.std.specs.declared.cmp.Ordering.{Ordering}
use Rattle.std.specs.declared.cmp.Ordering.TheVariants.{Less, Equal, Greater}
use Rattle.std.specs.Cmp.Lexicographic.{slice_cmp, nat_list_cmp_total}
use Rattle.std.specs.BTreeMap.{is_at}
use Rattle.std.specs.Option.{option_map}
use Rattle.std.proofs.lemmas.List.{map-append, append-nil, length-map}
use Rattle.swh_base.specs.declared.kind.Kind.{Kind}
use Rattle.swh_base.specs.Text.{IsRef, is_ref_byte}
use Rattle.swh_base.specs.Snapshot.{SnapshotBranch, IsBranch, BranchIsBefore, AreBranches, snapshot_text}
use Rattle.swh_base.specs.Snapshot.BranchTarget.{ToObject}
use Rattle.swh_base.proofs.Lacks.{passes_not}
use Rattle.swh_base.specs.declared.kind.Kind.TheVariants.{Snapshot}
use Rattle.swh_object.specs.Object.{IsObject}
use Rattle.swh_model.specs.Meaning.{head_branch, put_branch, with_head, Made}
use Rattle.swh_snpfmt.specs.declared.branch.Branch.{Branch}
use Rattle.swh_snpfmt.specs.declared.branch.Target.{Target as OwnTarget}
use Rattle.swh_snpfmt.specs.declared.branch.Target.TheVariants.{Object}
use Rattle.swh_snpfmt.specs.Branches.{branch_view, branch_views, target_view}
use Rattle.std.specs.Global.{Vec}
use Rattle.swh_trees.specs.declared.tree.Tree.{Tree}
use Rattle.swh_fastmeaning.specs.Aims.{Aim, AllAims, aim_with, aims_with}
use Rattle.swh_fastmeaning.specs.Snapshots.{tip_branch, refs_of, snapshot_of}
use Rattle.swh_fastmeaning.specs.Tips.{tip_of}
use Rattle.swh_fastmeaning.specs.declared.aims.Target.{Target}
use Rattle.std.specs.List.Sorted.{IsStrictlySortedBy}
use Rattle.swh_dedup.specs.Making.{HaveIds, names_of_made, made_from}
use Rattle.swh_fastmeaning.specs.Stock.{IsTipAmong}
use Rattle.swh_fastmeaning.specs.Ending.{is_greater, head_to, Ascend, AreSides, middle, IsHead, ExplainsEnd, EndsParts, refs_limit}
use Rattle.swh_base.specs.declared.entry.Entry.{Entry}
use Rattle.swh_forest.specs.PathMap.{PathMap}
use Rattle.swh_fastmeaning.specs.Parting.{ExplainsBody}
use Rattle.swh_fastmeaning.specs.declared.feed_fault.FeedFault.{FeedFault}
use Rattle.swh_fastmeaning.specs.declared.feed_fault.FeedFault.TheVariants.{BadStream, Limit, Memory}
use Rattle.swh_fastmeaning.specs.declared.sides.Sides.{Sides}
use Rattle.swh_fastmeaning.proofs.SnapshotKids.{LeadAmong, kids_among}
use Rattle.swh_fastmeaning.proofs.Tags.{named_id, passes_behind}

-- the snapshot of these branches
abbrev made_snapshot : List SnapshotBranch → Made
made_snapshot branches = record { kind = Snapshot; body = snapshot_text branches }

abbrev before_head : SnapshotBranch → Bool
before_head b = is_greater (head_to b)

abbrev at_head : SnapshotBranch → Bool
at_head b = is_eq (head_to b)

abbrev after_head : SnapshotBranch → Bool
after_head b = is_lt (head_to b)

-- ## One branch more

filter_push : (test : SnapshotBranch → Bool) (bs : List SnapshotBranch) (b : SnapshotBranch) → filter test (bs ++ b ∷ []) ≡ filter test bs ++ filter test (b ∷ [])
filter_push test [] b = refl
filter_push test (c ∷ bs) b =
    elim (test c) as (λ t. cond t (c ∷ filter test (bs ++ b ∷ [])) (filter test (bs ++ b ∷ [])) ≡ cond t (c ∷ filter test bs) (filter test bs) ++ filter test (b ∷ [])) [
      | true ↦ ap (λ (t : List SnapshotBranch). c ∷ t) (filter_push test bs b)
      | false ↦ filter_push test bs b
    ]

kept_side : (test : SnapshotBranch → Bool) (all : List SnapshotBranch) (v : SnapshotBranch) (old : List SnapshotBranch) → old ≡ filter test all → test v ≡ false → old ≡ filter test (all ++ v ∷ [])
kept_side test all v old h t =
    h ∙ sym (append-nil (filter test all)) ∙ sym (filter_push test all v ∙ ap (λ (b : Bool). filter test all ++ cond b (v ∷ []) []) t)

grown_side : (test : SnapshotBranch → Bool) (all : List SnapshotBranch) (b : Branch) (old new : List Branch) → branch_views old ≡ filter test all → test (branch_view b) ≡ true → new ≡ old ++ b ∷ [] → branch_views new ≡ filter test (all ++ branch_view b ∷ [])
grown_side test all b old new h t e =
    let v = branch_view b in
    ap branch_views e ∙ map-append branch_view old (b ∷ []) ∙ ap (λ (x : List SnapshotBranch). x ++ v ∷ []) h
    ∙ sym (filter_push test all v ∙ ap (λ (x : Bool). filter test all ++ cond x (v ∷ []) []) t)

module _ (all : List SnapshotBranch) (s : Sides) (b : Branch) (h : AreSides all s) where
  abbrev v : SnapshotBranch
  v = branch_view b

  pub side_before : (new : Vec Branch) → head_to (branch_view b) ≡ Greater → new.items ≡ s.before.items ++ b ∷ [] → AreSides (all ++ branch_view b ∷ []) (record { before = new; same = s.same; after = s.after })
  side_before new o e = record {
    before = grown_side before_head all b s.before.items new.items h.before (ap is_greater o) e;
    same = kept_side at_head all v (branch_views s.same.items) h.same (ap is_eq o);
    after = kept_side after_head all v (branch_views s.after.items) h.after (ap is_lt o);
  }

  pub side_same : (new : Vec Branch) → head_to (branch_view b) ≡ Equal → new.items ≡ s.same.items ++ b ∷ [] → AreSides (all ++ branch_view b ∷ []) (record { before = s.before; same = new; after = s.after })
  side_same new o e = record {
    before = kept_side before_head all v (branch_views s.before.items) h.before (ap is_greater o);
    same = grown_side at_head all b s.same.items new.items h.same (ap is_eq o) e;
    after = kept_side after_head all v (branch_views s.after.items) h.after (ap is_lt o);
  }

  pub side_after : (new : Vec Branch) → head_to (branch_view b) ≡ Less → new.items ≡ s.after.items ++ b ∷ [] → AreSides (all ++ branch_view b ∷ []) (record { before = s.before; same = s.same; after = new })
  side_after new o e = record {
    before = kept_side before_head all v (branch_views s.before.items) h.before (ap is_greater o);
    same = kept_side at_head all v (branch_views s.same.items) h.same (ap is_eq o);
    after = grown_side after_head all b s.after.items new.items h.after (ap is_lt o) e;
  }

-- ## All of them

less_after : (c : SnapshotBranch) (cs : List SnapshotBranch) → AllByRecursion (BranchIsBefore c) cs → (head_to c ≡ Less) ⊎ (head_to c ≡ Equal) → AllByRecursion (λ d. head_to d ≡ Less) cs
less_after c [] h w = tt
less_after c (d ∷ cs) h w = (by_order w, less_after c cs h.1 w)
  where
    by_order : (head_to c ≡ Less) ⊎ (head_to c ≡ Equal) → head_to d ≡ Less
    by_order (inl e) = nat_list_cmp_total.trans (codes "HEAD") c.name d.name e h.0
    by_order (inr e) = nat_list_cmp_total.congr (codes "HEAD") c.name d.name e ∙ h.0

none_before : (cs : List SnapshotBranch) → AllByRecursion (λ d. head_to d ≡ Less) cs → filter before_head cs ≡ []
none_before [] h = refl
none_before (d ∷ cs) h = ap (λ (o : Ordering). cond (is_greater o) (d ∷ filter before_head cs) (filter before_head cs)) h.0 ∙ none_before cs h.1

none_same : (cs : List SnapshotBranch) → AllByRecursion (λ d. head_to d ≡ Less) cs → filter at_head cs ≡ []
none_same [] h = refl
none_same (d ∷ cs) h = ap (λ (o : Ordering). cond (is_eq o) (d ∷ filter at_head cs) (filter at_head cs)) h.0 ∙ none_same cs h.1

all_after : (cs : List SnapshotBranch) → AllByRecursion (λ d. head_to d ≡ Less) cs → filter after_head cs ≡ cs
all_after [] h = refl
all_after (d ∷ cs) h = ap (λ (o : Ordering). cond (is_lt o) (d ∷ filter after_head cs) (filter after_head cs)) h.0 ∙ ap (λ (t : List SnapshotBranch). d ∷ t) (all_after cs h.1)

module _ (head : List ℕ) where
  abbrev own : SnapshotBranch
  own = head_branch head

  -- a branch's part on each side, by how `HEAD` compares with it
  abbrev parts : Ordering → SnapshotBranch → List SnapshotBranch → List SnapshotBranch
  parts o c cs = cond (is_greater o) (c ∷ filter before_head cs) (filter before_head cs) ++ own ∷ cond (is_lt o) (c ∷ filter after_head cs) (filter after_head cs)

  put_is : (bs : List SnapshotBranch) → Ascend bs → put_branch own bs ≡ filter before_head bs ++ own ∷ filter after_head bs
  put_is [] h = refl
  put_is (c ∷ cs) h = by_order (head_to c) refl (put_is cs h.1)
    where
      by_order : (o : Ordering) → head_to c ≡ o → put_branch own cs ≡ filter before_head cs ++ own ∷ filter after_head cs → match_ordering o (own ∷ c ∷ cs) (own ∷ cs) (c ∷ put_branch own cs) ≡ parts o c cs
      by_order Less e k =
          let l = less_after c cs h.0 (inl e) in
          sym (ap (λ (t : List SnapshotBranch). t ++ own ∷ c ∷ filter after_head cs) (none_before cs l) ∙ ap (λ (t : List SnapshotBranch). own ∷ c ∷ t) (all_after cs l))
      by_order Equal e k =
          let l = less_after c cs h.0 (inr e) in
          sym (ap (λ (t : List SnapshotBranch). t ++ own ∷ filter after_head cs) (none_before cs l) ∙ ap (λ (t : List SnapshotBranch). own ∷ t) (all_after cs l))
      by_order Greater e k = ap (λ (t : List SnapshotBranch). c ∷ t) k

whole_is : (bs : List SnapshotBranch) → Ascend bs → bs ≡ filter before_head bs ++ (filter at_head bs ++ filter after_head bs)
whole_is [] h = refl
whole_is (c ∷ cs) h = by_order (head_to c) refl (whole_is cs h.1)
  where
    by_order : (o : Ordering) → head_to c ≡ o → cs ≡ filter before_head cs ++ (filter at_head cs ++ filter after_head cs)
        → c ∷ cs ≡ cond (is_greater o) (c ∷ filter before_head cs) (filter before_head cs) ++ (cond (is_eq o) (c ∷ filter at_head cs) (filter at_head cs) ++ cond (is_lt o) (c ∷ filter after_head cs) (filter after_head cs))
    by_order Less e k =
        let l = less_after c cs h.0 (inl e) in
        sym (ap (λ (t : List SnapshotBranch). t ++ (filter at_head cs ++ c ∷ filter after_head cs)) (none_before cs l) ∙ ap (λ (t : List SnapshotBranch). t ++ c ∷ filter after_head cs) (none_same cs l) ∙ ap (λ (t : List SnapshotBranch). c ∷ t) (all_after cs l))
    by_order Equal e k =
        let l = less_after c cs h.0 (inr e) in
        sym (ap (λ (t : List SnapshotBranch). t ++ (c ∷ filter at_head cs ++ filter after_head cs)) (none_before cs l) ∙ ap (λ (t : List SnapshotBranch). c ∷ t ++ filter after_head cs) (none_same cs l) ∙ ap (λ (t : List SnapshotBranch). c ∷ t) (all_after cs l))
    by_order Greater e k = ap (λ (t : List SnapshotBranch). c ∷ t) k

pub with_head_is : (head : Option (List ℕ)) (bs : List SnapshotBranch) → Ascend bs → with_head head bs ≡ filter before_head bs ++ (middle (option_map head_branch head) (filter at_head bs) ++ filter after_head bs)
with_head_is None bs h = whole_is bs h
with_head_is (Some head) bs h = put_is head bs h

-- ## They are branches

are_branches : (bs : List SnapshotBranch) → AllByRecursion IsBranch bs → Ascend bs → AreBranches bs
are_branches [] g h = tt
are_branches (b ∷ bs) g h = (g.0, h.0, are_branches bs g.1 h.1)

less_from_greater : (p q : List ℕ) → slice_cmp nat_cmp p q ≡ Greater → slice_cmp nat_cmp q p ≡ Less
less_from_greater p q e = nat_list_cmp_total.antisymm q p ∙ ap ordering_reverse e

put_all : (P : SnapshotBranch → Type 0) (own : SnapshotBranch) (bs : List SnapshotBranch) → P own → AllByRecursion P bs → AllByRecursion P (put_branch own bs)
put_all P own [] p h = (p, tt)
put_all P own (c ∷ cs) p h =
    elim (slice_cmp nat_cmp own.name c.name) as (λ o. AllByRecursion P (match_ordering o (own ∷ c ∷ cs) (own ∷ cs) (c ∷ put_branch own cs))) [
      | Less ↦ (p, h)
      | Equal ↦ (p, h.1)
      | Greater ↦ (h.0, put_all P own cs p h.1)
    ]

put_branches : (head : List ℕ) (bs : List SnapshotBranch) → IsBranch (head_branch head) → AllByRecursion IsBranch bs → Ascend bs → AreBranches (put_branch (head_branch head) bs)
put_branches head [] b g h = (b, tt, tt)
put_branches head (c ∷ cs) b g h = by_order (head_to c) refl (put_branches head cs b g.1 h.1)
  where
    own : SnapshotBranch
    own = head_branch head

    by_order : (o : Ordering) → head_to c ≡ o → AreBranches (put_branch own cs) → AreBranches (match_ordering o (own ∷ c ∷ cs) (own ∷ cs) (c ∷ put_branch own cs))
    by_order Less e k = (b, (e, less_after c cs h.0 (inl e)), are_branches (c ∷ cs) g h)
    by_order Equal e k = (b, less_after c cs h.0 (inr e), are_branches cs g.1 h.1)
    by_order Greater e k = (g.0, put_all (BranchIsBefore c) own cs (less_from_greater (codes "HEAD") c.name e) h.0, k)

ref-not_nil : (text : List ℕ) → IsRef text → text ≢ []
ref-not_nil text h e = let l = h.some in absurd (omega (arith, l, ap length e))

named_not_nil : codes "HEAD" ≢ []
named_not_nil e = let l : ◌≡◌ {A = ℕ} 4 0 = ap length e in absurd (omega (arith, l))

head_ref : IsRef (codes "HEAD")
head_ref = record { some = omega arith; short = omega arith; bytes = passes_behind is_ref_byte (codes "HEAD") [] refl (λ i d l. absurd (omega (arith, l))) }

head_good : (head : List ℕ) → IsRef head → IsBranch (head_branch head)
head_good head h = let short = h.short in record { not_empty = named_not_nil; no_nul = passes_not is_ref_byte (codes "HEAD") 0 head_ref.bytes (λ t. cc); target = (ref-not_nil head h, omega (arith, short)) }

pub branches_good : (head : Option (List ℕ)) (bs : List SnapshotBranch) → IsHead head → AllByRecursion IsBranch bs → Ascend bs → AreBranches (with_head head bs)
branches_good None bs i g h = are_branches bs g h
branches_good (Some head) bs i g h = put_branches head bs (head_good head i) g h

pub tips_good : (id : Kind → List ℕ → List ℕ) (n : ℕ) (given : List Made) (tips : List (List ℕ × Aim Tree)) → HaveIds id given → AllByRecursion (IsTipAmong id n given) tips → AllByRecursion IsBranch (map tip_branch tips)
tips_good id n given [] ids h = tt
tips_good id n given (e ∷ tips) ids h = (
  record {
    not_empty = ref-not_nil e.0 h.0.ref;
    no_nul = passes_not is_ref_byte e.0 0 h.0.ref.bytes (λ t. cc);
    target = (named_id id given e.1.name ids h.0.aim.named).0;
  },
  tips_good id n given tips ids h.1,
)

-- ## Refs with a tip

pub refs_counted : {T : Type 0} (tips : List (List ℕ × Aim T)) → length (filter before_head (map tip_branch tips)) + length (filter after_head (map tip_branch tips)) ≡ length (filter (λ e. not (is_at (slice_cmp nat_cmp (codes "HEAD")) e.0)) tips)
refs_counted [] = refl
refs_counted {T} (e ∷ tips) = by_order (slice_cmp nat_cmp (codes "HEAD") e.0) (refs_counted tips)
  where
    by_order : (o : Ordering) → length (filter before_head (map tip_branch tips)) + length (filter after_head (map tip_branch tips)) ≡ length (filter (λ e. not (is_at (slice_cmp nat_cmp (codes "HEAD")) e.0)) tips)
        → length (cond (is_greater o) (tip_branch e ∷ filter before_head (map tip_branch tips)) (filter before_head (map tip_branch tips))) + length (cond (is_lt o) (tip_branch e ∷ filter after_head (map tip_branch tips)) (filter after_head (map tip_branch tips)))
        ≡ length (cond (not (is_eq o)) (e ∷ filter (λ e. not (is_at (slice_cmp nat_cmp (codes "HEAD")) e.0)) tips) (filter (λ e. not (is_at (slice_cmp nat_cmp (codes "HEAD")) e.0)) tips))
    by_order Less k = omega (arith, k)
    by_order Equal k = k
    by_order Greater k = omega (arith, k)

module _ {T U : Type 0} (f : T → U) where
  branches_same : (tips : List (List ℕ × Aim T)) → map tip_branch (map (λ (e : List ℕ × Aim T). (e.0, aim_with f e.1)) tips) ≡ map tip_branch tips
  branches_same [] = refl
  branches_same (e ∷ tips) = ap (λ (t : List SnapshotBranch). tip_branch e ∷ t) (branches_same tips)

  pub snapshot_same : (head : Option (List ℕ)) (aims : AllAims T) → snapshot_of head (aims_with f aims) ≡ snapshot_of head aims
  snapshot_same head aims = ap (λ (bs : List SnapshotBranch). made_snapshot (with_head head bs)) (branches_same aims.tips)

  refs_kept : (tips : List (List ℕ × Aim T)) → length (filter (λ e. not (is_at (slice_cmp nat_cmp (codes "HEAD")) e.0)) (map (λ (e : List ℕ × Aim T). let x : List ℕ × Aim U = (e.0, aim_with f e.1) in x) tips)) ≡ length (filter (λ e. not (is_at (slice_cmp nat_cmp (codes "HEAD")) e.0)) tips)
  refs_kept [] = refl
  refs_kept (e ∷ tips) = by_test (is_at (slice_cmp nat_cmp (codes "HEAD")) e.0) (refs_kept tips)
    where
      by_test : (b : Bool) → length (filter (λ e. not (is_at (slice_cmp nat_cmp (codes "HEAD")) e.0)) (map (λ (e : List ℕ × Aim T). let x : List ℕ × Aim U = (e.0, aim_with f e.1) in x) tips)) ≡ length (filter (λ e. not (is_at (slice_cmp nat_cmp (codes "HEAD")) e.0)) tips)
          → length (cond (not b) ((e.0, aim_with f e.1) ∷ filter (λ e. not (is_at (slice_cmp nat_cmp (codes "HEAD")) e.0)) (map (λ (e : List ℕ × Aim T). let x : List ℕ × Aim U = (e.0, aim_with f e.1) in x) tips)) (filter (λ e. not (is_at (slice_cmp nat_cmp (codes "HEAD")) e.0)) (map (λ (e : List ℕ × Aim T). let x : List ℕ × Aim U = (e.0, aim_with f e.1) in x) tips)))
          ≡ length (cond (not b) (e ∷ filter (λ e. not (is_at (slice_cmp nat_cmp (codes "HEAD")) e.0)) tips) (filter (λ e. not (is_at (slice_cmp nat_cmp (codes "HEAD")) e.0)) tips))
      by_test true k = k
      by_test false k = omega (arith, k)

  pub refs_same : (aims : AllAims T) → length (refs_of (aims_with f aims)) ≡ length (refs_of aims)
  refs_same aims = refs_kept aims.tips

-- ## The names of tips ascend

pub ascend_from : (es : List (Vec ℕ × Target)) → IsStrictlySortedBy (λ a b. slice_cmp nat_cmp a.items b.items) (map (λ e. e.0) es) → Ascend (map tip_branch (map tip_of es))
unfolding IsStrictlySortedBy
ascend_from [] s = tt
ascend_from (e ∷ es) s = (of_keys es s.0, ascend_from es s.1)
  where
    of_keys : (es : List (Vec ℕ × Target)) → AllByRecursion (λ k. slice_cmp nat_cmp e.0.items k.items ≡ Less) (map (λ f. f.0) es) → AllByRecursion (BranchIsBefore (tip_branch (tip_of e))) (map tip_branch (map tip_of es))
    of_keys [] a = tt
    of_keys (f ∷ es) a = (a.0, of_keys es a.1)

-- one tip more
pub tips_turn : (entries it rest : List (Vec ℕ × Target)) (name : Vec ℕ) (t : Target) (done : List SnapshotBranch) (b : Branch) → map tip_branch (map tip_of entries) ≡ done ++ map tip_branch (map tip_of it) → it ≡ (name, t) ∷ rest → b.name ≡ name.items → b.target ≡ Object t.name
    → map tip_branch (map tip_of entries) ≡ (done ++ branch_view b ∷ []) ++ map tip_branch (map tip_of rest)
tips_turn entries it rest name t done b h i n k =
    let own : tip_branch (tip_of (name, t)) ≡ branch_view b =
    ap (λ (x : List ℕ). let s : SnapshotBranch = record { name = x; target = ToObject t.name } in s) (sym n) ∙ ap (λ (x : OwnTarget). let s : SnapshotBranch = record { name = b.name; target = target_view x } in s) (sym k) in
    h ∙ ap (λ (es : List (Vec ℕ × Target)). done ++ map tip_branch (map tip_of es)) i
    ∙ ap (λ (v : SnapshotBranch). done ++ v ∷ map tip_branch (map tip_of rest)) own
    ∙ sym (append_assoc done (branch_view b ∷ []) (map tip_branch (map tip_of rest)))

-- all of them, joined again
pub joined_is : (bs : List SnapshotBranch) (s : Sides) (head : Option (List ℕ)) (h : Option Branch) (all : List Branch) → AreSides bs s → Ascend bs → option_map branch_view h ≡ option_map head_branch head
    → branch_views all ≡ branch_views s.before.items ++ (middle (option_map branch_view h) (branch_views s.same.items) ++ branch_views s.after.items) → branch_views all ≡ with_head head bs
joined_is bs s head h all a k e j =
    j ∙ ap (λ (o : Option SnapshotBranch). branch_views s.before.items ++ (middle o (branch_views s.same.items) ++ branch_views s.after.items)) e
    ∙ ap (λ (t : List SnapshotBranch). t ++ (middle (option_map head_branch head) (branch_views s.same.items) ++ branch_views s.after.items)) a.before
    ∙ ap (λ (t : List SnapshotBranch). filter before_head bs ++ (middle (option_map head_branch head) t ++ branch_views s.after.items)) a.same
    ∙ ap (λ (t : List SnapshotBranch). filter before_head bs ++ (middle (option_map head_branch head) (filter at_head bs) ++ t)) a.after
    ∙ sym (with_head_is head bs k)

-- the refs with a tip, counted on both sides
pub count_is : (aims : AllAims Tree) (s : Sides) → AreSides (map tip_branch aims.tips) s → length s.before.items + length s.after.items ≡ length (refs_of aims)
count_is aims s a =
    let b = length-map s.before.items branch_view ∙ refl in
    let f = length-map s.after.items branch_view ∙ refl in
    let x = ap length a.before in
    let y = ap length a.after in
    let n = refs_counted aims.tips in
    omega (arith, b, f, x, y, n)

pub end_refused : {T : Type 0} (head : Option (List ℕ)) (aims : AllAims T) (body : List ℕ) (fault : FeedFault) → ExplainsBody body fault → body ≡ (snapshot_of head aims).body → length (refs_of aims) ≤ refs_limit → ExplainsEnd head aims fault
end_refused head aims body (BadStream at why) b e l = absurd b
end_refused head aims body (Limit which number) b e l = inr (b.0, l, b.1 ∙ ap length e, b.2)
end_refused head aims body Memory b e l = tt

pub end_same : {T U : Type 0} (f : T → U) (head : Option (List ℕ)) (aims : AllAims T) (fault : FeedFault) → ExplainsEnd head aims fault → ExplainsEnd head (aims_with f aims) fault
end_same f head aims (BadStream at why) e = e
end_same f head aims (Limit which number) (inl e) = inl (e.0, e.1 ∙ sym (refs_same f aims), e.2)
end_same f head aims (Limit which number) (inr e) = inr (e.0, subst (λ (n : ℕ). n ≤ refs_limit) (sym (refs_same f aims)) e.1, e.2 ∙ ap (λ (m : Made). length m.body) (sym (snapshot_same f head aims)), e.3)
end_same f head aims Memory e = tt

pub ends_parts : (f : Tree → PathMap) (head : Option (List ℕ)) (aims : AllAims Tree) (given : List Made) (r : Result Entry FeedFault) → IfOk r (λ o. made_from o ≡ snapshot_of head aims) → IfOk r (λ o. length (refs_of aims) ≤ refs_limit)
    → IfOk r (EndsParts head (record { aims = aims_with f aims; given = given }))
ends_parts f head aims given (Ok o) s l = record { snapshot = s ∙ sym (snapshot_same f head aims); few = subst (λ (n : ℕ). n ≤ refs_limit) (sym (refs_same f aims)) l }
ends_parts f head aims given (Err e) s l = tt

-- what each tip leads to was given
pub tips_lead : (id : Kind → List ℕ → List ℕ) (n : ℕ) (given : List Made) (tips : List (List ℕ × Aim Tree)) → AllByRecursion (IsTipAmong id n given) tips → LeadAmong (names_of_made id given) tips
tips_lead id n given [] h = tt
tips_lead id n given (e ∷ tips) h = (h.0.aim.named, tips_lead id n given tips h.1)

-- the children of the snapshot were given
pub snapshot_among : (id : Kind → List ℕ → List ℕ) (n : ℕ) (head : Option (List ℕ)) (aims : AllAims Tree) (given : List Made) (o : Entry) → AllByRecursion (IsTipAmong id n given) aims.tips → AreBranches (with_head head (map tip_branch aims.tips)) → made_from o ≡ snapshot_of head aims → IsObject id o → AllByRecursion (Contains (names_of_made id given)) o.kids
snapshot_among id n head aims given o h good is object = kids_among id (names_of_made id given) head aims o (tips_lead id n given aims.tips h) good is object

pub kids_given : (id : Kind → List ℕ → List ℕ) (n : ℕ) (head : Option (List ℕ)) (aims : AllAims Tree) (given : List Made) (r : Result Entry FeedFault) → AllByRecursion (IsTipAmong id n given) aims.tips → IfOk r (λ o. made_from o ≡ snapshot_of head aims) → IfOk r (λ o. AreBranches (with_head head (map tip_branch aims.tips))) → IfOk r (IsObject id) → IfOk r (λ o. AllByRecursion (Contains (names_of_made id given)) o.kids)
kids_given id n head aims given (Ok o) h s g b = snapshot_among id n head aims given o h g s b
kids_given id n head aims given (Err e) h s g b = tt
