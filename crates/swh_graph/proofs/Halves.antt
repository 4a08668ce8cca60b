-- A branch that is looked for by halves, among branches that ascend.
use Rattle.std.proofs.Common.{◌≡◌, ◌⊎◌, inl, inr, ℕ, zero, suc, ◌+◌, ◌<◌, ◌≤◌, List, [], ◌∷◌, length, get_or, refl, sym, ap, ◌∙◌, arith}
use Rattle.std.specs.Prelude.{Contains, ◌≢◌}
use Rattle.std.specs.declared.cmp.Ordering.{Ordering}
use Rattle.std.specs.declared.cmp.Ordering.TheVariants.{Less, Equal, Greater}
use Rattle.std.specs.Ordering.{nat_cmp, ordering_reverse}
use Rattle.std.specs.Cmp.{tied_itself}
use Rattle.std.specs.Cmp.Lexicographic.{slice_cmp, nat_list_cmp_total}
use Rattle.std.specs.FinMap.{nat_cmp-IsAntisymmetric, slice_cmp-IsAntisymmetric}
use Rattle.std.proofs.lemmas.List.Elements.{Contains-get_or}
use Rattle.swh_base.specs.Snapshot.{SnapshotBranch, AreBranches, BranchIsBefore}
use Rattle.swh_snpfmt.specs.declared.branch.SpelledBranch.{SpelledBranch}
use Rattle.swh_snpfmt.specs.Branches.{branch_of, branches_in_body}
use Rattle.swh_graph.specs.Search.{IsPlaceOf}
use Rattle.swh_graph.proofs.Lists.{all_of, in_map, from_map}

abbrev cmp : List ℕ → List ℕ → Ordering
cmp a b = slice_cmp nat_cmp a b

abbrev name_at : List SpelledBranch → ℕ → SpelledBranch → List ℕ
name_at branches k d = (get_or branches k d).name.now

-- of two branches the earlier one has the lesser name
earlier_is_less : (branches : List SpelledBranch) → AreBranches (branches_in_body branches) → (i j : ℕ) (d : SpelledBranch) → i < j → j < length branches
    → cmp (name_at branches i d) (name_at branches j d) ≡ Less
earlier_is_less [] good i j d before within = absurd (omega (arith, within))
earlier_is_less (b ∷ bs) good i zero d before within = absurd (omega (arith, before))
earlier_is_less (b ∷ bs) good zero (suc j) d before within =
    all_of (λ (o : SnapshotBranch). BranchIsBefore (branch_of b) o) (branches_in_body bs) (branch_of (get_or bs j d)) good.1 (in_map branch_of bs (get_or bs j d) (Contains-get_or bs j d (omega (arith, within))))
earlier_is_less (b ∷ bs) good (suc i) (suc j) d before within = earlier_is_less bs good.2 i j d (omega (arith, before)) (omega (arith, within))

less_then : (a b c : List ℕ) → cmp a b ≡ Less → cmp b c ≡ Less → cmp a c ≡ Less
less_then a b c x y = nat_list_cmp_total.trans a b c x y

-- what is after a greater one is greater
greater_then : (a b c : List ℕ) → cmp b a ≡ Less → cmp b c ≡ Greater → cmp a c ≡ Greater
greater_then a b c x y =
    let c_b : cmp c b ≡ Less = nat_list_cmp_total.antisymm c b ∙ ap ordering_reverse y in
    nat_list_cmp_total.antisymm a c ∙ ap ordering_reverse (less_then c b a c_b x)

below_or_here : (k n : ℕ) → k < n + 1 → (k < n) ⊎ (k ≡ n)
below_or_here k zero less = inr (omega (arith, less))
below_or_here zero (suc n) less = inl (omega arith)
below_or_here (suc k) (suc n) less = elim (below_or_here k n (omega (arith, less))) [ inl l ↦ inl (omega (arith, l)) | inr e ↦ inr (ap suc e) ]

-- the branch at a place
exists_at : (bs : List SpelledBranch) (i : ℕ) → i < length bs → (b : SpelledBranch) × ((d : SpelledBranch) → get_or bs i d ≡ b)
exists_at [] i less = absurd (omega (arith, less))
exists_at (b ∷ bs) zero less = (b, λ d. refl)
exists_at (b ∷ bs) (suc i) less = exists_at bs i (omega (arith, less))

lower_or_not : (k n : ℕ) → (k < n) ⊎ (n ≤ k)
lower_or_not k zero = inr (omega arith)
lower_or_not zero (suc n) = inl (omega arith)
lower_or_not (suc k) (suc n) = elim (lower_or_not k n) [ inl l ↦ inl (omega (arith, l)) | inr m ↦ inr (omega (arith, m)) ]

module _ (branches : List SpelledBranch) (name : List ℕ) where
  -- What stands before the first place has a lesser name, and what stands from the second on a greater one.
  pub record IsBetween (low high : ℕ) : Type 0 where
    pub order : low ≤ high
    pub within : high ≤ length branches
    pub below : (k : ℕ) (d : SpelledBranch) → k < low → cmp (name_at branches k d) name ≡ Less
    pub above : (k : ℕ) (d : SpelledBranch) → high ≤ k → k < length branches → cmp (name_at branches k d) name ≡ Greater

  module _ (good : AreBranches (branches_in_body branches)) (low high middle : ℕ) (b : IsBetween low high) (at_least : low ≤ middle) (less : middle < high) where
    in_list : middle < length branches
    in_list = let w = b.within in omega (arith, w, less)

    pub goes_up : ((d : SpelledBranch) → cmp (name_at branches middle d) name ≡ Less) → IsBetween (middle + 1) high
    goes_up is = record {
      order = omega (arith, less);
      within = b.within;
      below = λ k d small. elim (below_or_here k middle small) [
        | inl before ↦ less_then (name_at branches k d) (name_at branches middle d) name (earlier_is_less branches good k middle d before in_list) (is d)
        | inr here ↦ ap (λ (i : ℕ). cmp (name_at branches i d) name) here ∙ is d
      ];
      above = b.above;
    }

    after_or_here : (k : ℕ) → middle ≤ k → (middle < k) ⊎ (k ≡ middle)
    after_or_here k least = elim (below_or_here middle k (omega (arith, least))) [ inl l ↦ inl l | inr e ↦ inr (sym e) ]

    pub goes_down : ((d : SpelledBranch) → cmp (name_at branches middle d) name ≡ Greater) → IsBetween low middle
    goes_down is = record {
      order = at_least;
      within = omega (arith, in_list);
      below = b.below;
      above = λ k d least short. elim (after_or_here k least) [
        | inl after ↦ greater_then (name_at branches k d) (name_at branches middle d) name (earlier_is_less branches good middle k d after short) (is d)
        | inr here ↦ ap (λ (i : ℕ). cmp (name_at branches i d) name) here ∙ is d
      ];
    }

    pub is_place : ((d : SpelledBranch) → cmp (name_at branches middle d) name ≡ Equal) → IsPlaceOf branches name middle
    is_place is =
        let found = exists_at branches middle in_list in
        record {
          within = in_list;
          branch = found.0;
          there = sym (found.1 found.0);
          named = slice_cmp-IsAntisymmetric nat_cmp-IsAntisymmetric found.0.name.now name (ap (λ (b : SpelledBranch). cmp b.name.now name) (sym (found.1 found.0)) ∙ is found.0);
        }

  -- where nothing is left between, no branch has the name
  module _ (low high : ℕ) (b : IsBetween low high) (none : high ≤ low) where
    no_name : (k : ℕ) (x : SpelledBranch) → k < length branches → get_or branches k x ≡ x → x.name.now ≢ name
    no_name k x within there is =
        let ties : cmp x.name.now name ≡ Equal = ap (cmp x.name.now) (sym is) ∙ tied_itself nat_list_cmp_total x.name.now in
        let same : cmp (name_at branches k x) name ≡ Equal = ap (λ (y : SpelledBranch). cmp y.name.now name) there ∙ ties in
        elim (lower_or_not k high) [
          | inl lower ↦ (let e : Less ≡ Equal = sym (b.below k x (omega (arith, lower, none))) ∙ same in cc)
          | inr higher ↦ (let e : Greater ≡ Equal = sym (b.above k x higher within) ∙ same in cc)
        ]

    pub no_branch : (branch : SnapshotBranch) → Contains (branches_in_body branches) branch → branch.name ≢ name
    no_branch branch h is =
        let found = from_map branch_of branches branch h in
        let at = found.1.0 in
        no_name at.0 found.0 at.1 at.2 (ap (λ (o : SnapshotBranch). o.name) found.1.1 ∙ is)
