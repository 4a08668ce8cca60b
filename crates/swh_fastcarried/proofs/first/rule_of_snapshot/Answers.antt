use Rattle.std.proofs.Common.{inl, inr}
use Rattle.swh_fastcarried.proofs.FirstRules.{rule_snp_none}
use Rattle.swh_fastcarried.proofs.Reaching.{not_true}
use Rattle.swh_fastcarried.proofs.first.rule_of_snapshot.Goals as goal

pub returns : goal.returns
returns g c =
    λ order. rule_snp_none (g.L.Look.archive c.args.look.now).bodies c.args.root order c.args.name c.requires
    (λ odd. elim odd [
      | inl differ ↦ differ (c.is_same.ensures.0 c.if-not-is_same.false)
      | inr has ↦ not_true (c.in_ok-has_odd_branch.ensures c.args.root) c.if-branch.false has
    ])
