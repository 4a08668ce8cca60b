-- Where HEAD leads: no further than the branches that were seen.
use Rattle.std.proofs.Common.{◌≡◌, ◌⊎◌, inl, inr, ℕ, ◌<◌, Bool, true, false, cond, List, length, get_or, set, sum_by, Contains, refl, sym, ap, ◌∙◌, subst, arith, get_or-set_same, get_or-set_other}
use Rattle.std.specs.Prelude.{◌≢◌}
use Rattle.std.proofs.lemmas.List.{get_or_default}
use Rattle.std.proofs.lemmas.List.Elements.{Contains-get_or}
use Rattle.swh_snpfmt.specs.declared.branch.SpelledBranch.{SpelledBranch}
use Rattle.swh_snpfmt.specs.Branches.{branch_of, branches_in_body, target_spelled}
use Rattle.swh_graph.specs.Search.{IsPlaceOf}
use Rattle.swh_graph.proofs.Lists.{in_map, same_or_not}
use Rattle.swh_base.specs.declared.name.Name.{Name}
use Rattle.swh_base.specs.Snapshot.{BranchTarget, ToObject, ToBranch, ToNothing, SnapshotBranch, AreBranches}
use Rattle.swh_graph.specs.Root.{IsAlias, BranchLeads}
use Rattle.swh_graph.proofs.OneRoot.{one_alias, object_no_alias, same_target}
use Rattle.swh_graph.proofs.Trails.{IsTrail, trail_closes, trail_stops}

-- A branch of this name stands at a place that was seen.
pub record IsSeen (branches : List SpelledBranch) (seen : List Bool) (name : List ℕ) : Type 0 where
  pub place : ℕ
  pub within : place < length branches
  pub marked : get_or seen place false ≡ true
  pub named : (d : SpelledBranch) → (get_or branches place d).name.now ≡ name

-- what is read at a place
pub read_at : (seen : List Bool) (place : ℕ) (read b : Bool) → place < length seen → read ≡ get_or seen place read → read ≡ b → get_or seen place false ≡ b
read_at seen place read b less is same = get_or_default seen place false read less ∙ sym is ∙ same

-- how many places are left
abbrev pub unseen : List Bool → ℕ
unseen seen = sum_by (λ (b : Bool). cond b 0 1) seen

module _ (branches : List SpelledBranch) (seen : List Bool) (name : List ℕ) (place : ℕ) (same_long : length seen ≡ length branches) (is : IsPlaceOf branches name place) where
  its_name : (d : SpelledBranch) → (get_or branches place d).name.now ≡ name
  its_name d = ap (λ (b : SpelledBranch). b.name.now) (sym (is.there ∙ same_default d)) ∙ is.named
    where
      same_default : (e : SpelledBranch) → get_or branches place is.branch ≡ get_or branches place e
      same_default e = get_or_default branches place is.branch e is.within

  pub seen_there : get_or seen place false ≡ true → IsSeen branches seen name
  seen_there marked = record { place = place; within = is.within; marked = marked; named = its_name }

  marked_now : get_or (set seen place true) place false ≡ true
  marked_now = let w = is.within in let less : place < length seen = omega (arith, w, same_long) in get_or-set_same seen place true false less

  pub seen_now : IsSeen branches (set seen place true) name
  seen_now = record { place = place; within = is.within; marked = marked_now; named = its_name }

  still_marked : (k : ℕ) → get_or seen k false ≡ true → (k ≡ place) ⊎ (k ≡ place → ⊥) → get_or (set seen place true) k false ≡ true
  still_marked k marked (inl here) = ap (λ (i : ℕ). get_or (set seen place true) i false) here ∙ marked_now
  still_marked k marked (inr other) = get_or-set_other seen place k true false other ∙ marked

  pub seen_stays : (n : List ℕ) → IsSeen branches seen n → IsSeen branches (set seen place true) n
  seen_stays n s = record { place = s.place; within = s.within; marked = still_marked s.place s.marked (same_or_not s.place place); named = s.named }

  seen_or_here : (n : List ℕ) (s : IsSeen branches (set seen place true) n) → (s.place ≡ place) ⊎ (s.place ≡ place → ⊥) → IsSeen branches seen n ⊎ (name ≡ n)
  seen_or_here n s (inl here) = inr (sym (its_name is.branch) ∙ ap (λ (i : ℕ). (get_or branches i is.branch).name.now) (sym here) ∙ s.named is.branch)
  seen_or_here n s (inr other) = inl (record { place = s.place; within = s.within; marked = sym (get_or-set_other seen place s.place true false other) ∙ s.marked; named = s.named })

  pub seen_only : (n : List ℕ) → IsSeen branches (set seen place true) n → IsSeen branches seen n ⊎ (name ≡ n)
  seen_only n s = seen_or_here n s (same_or_not s.place place)

  -- the branch at this place
  pub branch_there : (target : BranchTarget) → ((d : SpelledBranch) → target_spelled (get_or branches place d).target ≡ target) → Contains (branches_in_body branches) (record { name = name; target = target })
  branch_there target its =
      let b = get_or branches place is.branch in
      let same : branch_of b ≡ (let r : SnapshotBranch = record { name = name; target = target } in r) =
      ap (λ (n : List ℕ). let r : SnapshotBranch = record { name = n; target = target_spelled b.target } in r) (its_name is.branch)
      ∙ ap (λ (t : BranchTarget). let r : SnapshotBranch = record { name = name; target = t } in r) (its is.branch) in
      subst (Contains (branches_in_body branches)) same (in_map branch_of branches b (Contains-get_or branches place is.branch is.within))

module _ (bs : List SnapshotBranch) (good : AreBranches bs) (Seen : List ℕ → Type 0) (start here : List ℕ) (t : IsTrail (IsAlias bs) Seen start here) where
  -- a branch that was seen is an alias
  seen_no_object : (name : List ℕ) (object : Name) → Seen name → Contains bs (record { name = name; target = ToObject object }) → ⊥
  seen_no_object name object seen target = let on = t.next name seen in object_no_alias bs good name object target on.0 on.1.0

  -- aliases that run in a circle lead to no object
  pub circle_leads_nowhere : Seen here → (object : Name) → BranchLeads bs start object → ⊥
  circle_leads_nowhere seen object leads =
      seen_no_object leads.last object (trail_closes (IsAlias bs) (one_alias bs good) Seen start here t seen leads.last leads.aliases) leads.target

  -- nor do those that end at what is no branch with an object
  pub end_leads_nowhere : ((target : BranchTarget) → Contains bs (record { name = here; target = target }) → target ≡ ToNothing) → (object : Name) → BranchLeads bs start object → ⊥
  end_leads_nowhere nothing object leads =
      elim (trail_stops (IsAlias bs) (one_alias bs good) Seen start here t (λ other alias. let e : ToBranch other ≡ ToNothing = nothing (ToBranch other) alias in cc) leads.last leads.aliases) [
        | inl is ↦
            let target = subst (λ (name : List ℕ). Contains bs (let b : SnapshotBranch = record { name = name; target = ToObject object } in b)) is leads.target in
            absurd (let e : ToObject object ≡ ToNothing = nothing (ToObject object) target in cc)
        | inr seen ↦ seen_no_object leads.last object seen leads.target
      ]

  -- the branch here leads to nothing
  pub dangling_leads_nowhere : Contains bs (record { name = here; target = ToNothing }) → (object : Name) → BranchLeads bs start object → ⊥
  dangling_leads_nowhere there object leads = end_leads_nowhere (λ target h. same_target bs good here target ToNothing h there) object leads

  -- there is no branch here
  pub missing_leads_nowhere : ((branch : SnapshotBranch) → Contains bs branch → branch.name ≢ here) → (object : Name) → BranchLeads bs start object → ⊥
  missing_leads_nowhere none object leads =
      end_leads_nowhere (λ target h. absurd (none (let b : SnapshotBranch = record { name = here; target = target } in b) h refl)) object leads
