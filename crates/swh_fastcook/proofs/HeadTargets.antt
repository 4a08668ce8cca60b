-- The head of a snapshot.
use Rattle.std.proofs.Common.{◌≡◌, ◌≢◌, ℕ, None, List, ap, ◌∙◌, subst, codes}
use Rattle.std.specs.Prelude.{Contains}
use Rattle.swh_base.specs.declared.kind.Kind.TheVariants.{Snapshot}
use Rattle.swh_base.specs.declared.name.Name.{Name}
use Rattle.swh_base.specs.Snapshot.{SnapshotBranch, ToBranch}
use Rattle.swh_model.specs.Archive.{Bodies}
use Rattle.swh_graph.specs.Holding.{HoldsSnapshot}
use Rattle.swh_graph.proofs.Lists.{from_map}
use Rattle.swh_snpfmt.specs.declared.branch.SpelledBranch.{SpelledBranch}
use Rattle.swh_snpfmt.specs.Branches.{branch_of, branches_in_body}
use Rattle.swh_fastcook.specs.Cook.{IsHeadOf}
use Rattle.swh_fastcook.proofs.Loads.{same_branches}

module _ (bodies : Bodies) (root : Name) where
  module _ (kind : root.kind ≡ Snapshot) (bs : List SpelledBranch) (holds : HoldsSnapshot bodies root (branches_in_body bs)) where
    pub no_head : ((b : SpelledBranch) → Contains bs b → (target : List ℕ) → (branch_of b).name ≡ codes "HEAD" → (branch_of b).target ≢ ToBranch target) → IsHeadOf bodies root None
    no_head none target h =
        let there = subst (λ (l : List SnapshotBranch). Contains l (record { name = codes "HEAD"; target = ToBranch target })) (same_branches bodies root (branches_in_body bs) holds h.branches h.holds) h.there in
        let b = from_map branch_of bs (record { name = codes "HEAD"; target = ToBranch target }) there in
        none b.0 b.1.0 target (ap (λ (x : SnapshotBranch). x.name) b.1.1) (ap (λ (x : SnapshotBranch). x.target) b.1.1)
