use Rattle.std.proofs.Common.{refl, subst}
use Rattle.swh_base.specs.Snapshot.{SnapshotBranch}
use Rattle.swh_snpfmt.specs.Branches.{branch_of}
use Rattle.swh_graph.proofs.Lists.{in_map, from_map}
use Rattle.swh_fastcarried.specs.Rules.{IsCarriedTarget}
use Rattle.swh_fastcarried.proofs.branches.have_odd_branch.Goals as goal

pub returns-in-Some : goal.returns-in-Some
returns-in-Some g c = (
  λ _. record {
    branch = branch_of c.in-Some.field-0;
    there = in_map branch_of c.args.branches.now c.in-Some.field-0 c.in-Some.ensures.some.0;
    odd = c.in-Some.ensures.some.1;
  },
  λ _. refl,
)

pub returns-in-None : goal.returns-in-None
returns-in-None g c = (
  λ is. cc,
  λ has.
      let found = from_map branch_of c.args.branches.now has.branch has.there in
      absurd (has.odd (subst (λ (b : SnapshotBranch). IsCarriedTarget (g.L.Look.archive c.args.look.now).bodies b.name b.target) found.1.1 (c.in-None.ensures.none found.0 found.1.0))),
)
