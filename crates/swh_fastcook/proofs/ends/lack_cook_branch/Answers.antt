use Rattle.std.proofs.Common.{refl, ap, ◌∙◌}
use Rattle.swh_base.specs.Snapshot.{SnapshotBranch}
use Rattle.swh_snpfmt.specs.Branches.{branch_of}
use Rattle.swh_graph.proofs.Lists.{in_map, from_map}
use Rattle.swh_fastcook.proofs.ends.lack_cook_branch.Goals as goal

pub returns-in-Some : goal.returns-in-Some
returns-in-Some c =
    (λ is. cc, λ lack. absurd (lack (branch_of c.in-Some.field-0) (in_map branch_of c.args.branches.now c.in-Some.field-0 c.in-Some.ensures.some.0) c.in-Some.ensures.some.1))

pub returns-in-None : goal.returns-in-None
returns-in-None c = (
  λ _ b there is.
      let found = from_map branch_of c.args.branches.now b there in
      c.in-None.ensures.none found.0 found.1.0 (ap (λ (x : SnapshotBranch). x.name) found.1.1 ∙ is),
  λ _. refl,
)
