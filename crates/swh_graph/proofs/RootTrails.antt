-- The way to a root.
use Rattle.std.proofs.Common.{◌≡◌, ◌⊎◌, inl, inr, Option, Some, None, List, Contains, sym, subst, ap, ◌∙◌}
use Rattle.std.specs.Prelude.{MatchOption, codes}
use Rattle.swh_base.specs.declared.kind.Kind.TheVariants.{Content, Directory}
use Rattle.swh_base.specs.declared.name.Name.{Name}
use Rattle.swh_model.specs.Archive.{Bodies, body_of, IsHeld}
use Rattle.swh_base.specs.Snapshot.{SnapshotBranch}
use Rattle.swh_graph.specs.Holding.{HoldsSnapshot}
use Rattle.swh_graph.specs.Root.{BranchLeads, HasHead, HasRootOf, IsRootGap, HasNoRoot}
use Rattle.swh_graph.specs.Rounds.{LeadsNext}
use Rattle.swh_graph.proofs.Lists.{not_none}
use Rattle.swh_graph.proofs.OneRoot.{one_step, folder_stops, step_held, one_held_snapshot}
use Rattle.swh_graph.proofs.Trails.{IsTrail, trail_closes, trail_stops}

-- ---- one step

module _ (bodies : Bodies) (name : Name) where
  -- where HEAD leads in the snapshot that is held
  pub head_answers : (branches : List SnapshotBranch) → HoldsSnapshot bodies name branches → (head : Option Name)
      → MatchOption head ((object : Name) → BranchLeads branches (codes "HEAD") object → ⊥) (BranchLeads branches (codes "HEAD")) → LeadsNext (HasHead bodies name) bodies name head
  head_answers branches holds (Some object) leads = record { branches = branches; holds = holds; leads = leads }
  head_answers branches holds None none = (
    λ next has. none next (subst (λ (bs : List SnapshotBranch). BranchLeads bs (codes "HEAD") next) (one_held_snapshot bodies name has.branches branches has.holds holds) has.leads),
    inr (inr (holds.body, holds.held)),
  )

-- ---- the way

module _ (bodies : Bodies) (seen : List Name) (anchor place : Name) (t : IsTrail (HasRootOf bodies) (Contains seen) anchor place) where
  -- what was seen is no directory, and is held
  seen_no_root : (n : Name) → Contains seen n → n.kind ≡ Directory → ⊥
  seen_no_root n there folder = let on = t.next n there in folder_stops bodies n on.0 folder on.1.0

  seen_no_gap : (n : Name) → Contains seen n → body_of bodies n ≡ None → ⊥
  seen_no_gap n there missing = let on = t.next n there in let h = step_held bodies n on.0 on.1.0 in not_none (body_of bodies n) h.0 h.1 missing

  -- there is no root in a circle
  pub no_root_in_circle : Contains seen place → HasNoRoot bodies anchor
  no_root_in_circle again = record {
    none = λ root is. seen_no_root root (trail_closes (HasRootOf bodies) (one_step bodies) (Contains seen) anchor place t again root is.leads) is.folder;
    whole = λ name gap. seen_no_gap name (trail_closes (HasRootOf bodies) (one_step bodies) (Contains seen) anchor place t again name gap.leads) gap.missing;
  }

  -- nor where nothing leads on from what is no directory
  pub no_root_at_end : (place.kind ≡ Directory → ⊥) → LeadsNext (HasRootOf bodies place) bodies place None → HasNoRoot bodies anchor
  no_root_at_end no_folder end =
      let ends = trail_stops (HasRootOf bodies) (one_step bodies) (Contains seen) anchor place t end.0 in
      record {
        none = λ root is. elim (ends root is.leads) [
          | inl same ↦ no_folder (ap (λ (n : Name). n.kind) (sym same) ∙ is.folder)
          | inr there ↦ seen_no_root root there is.folder
        ];
        whole = λ name gap. elim (ends name gap.leads) [
          | inl same ↦ no_gap_here (subst (IsRootGap bodies anchor) same gap) end.1
          | inr there ↦ seen_no_gap name there gap.missing
        ];
      }
    where
      no_gap_here : IsRootGap bodies anchor place → (place.kind ≡ Content) ⊎ ((place.kind ≡ Directory) ⊎ IsHeld bodies place) → ⊥
      no_gap_here gap (inl content) = gap.no_content content
      no_gap_here gap (inr (inl folder)) = gap.no_folder folder
      no_gap_here gap (inr (inr held)) = not_none (body_of bodies place) held.0 held.1 gap.missing
