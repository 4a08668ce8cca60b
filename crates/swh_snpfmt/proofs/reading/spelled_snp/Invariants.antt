use Rattle.std.proofs.Common.{◌≡◌, ◌++◌, length}
use Rattle.swh_base.specs.Snapshot.{AreBranches, snapshot_text}
use Rattle.swh_snpfmt.specs.Branches.{branches_in_body}
use Rattle.swh_snpfmt.proofs.reading.spelled_snp.Given as goal

abbrev pub invariant-loop-rest : goal.invariant-loop-rest
invariant-loop-rest l = record { good : AreBranches (branches_in_body l.list.items); text : l.body ≡ snapshot_text (branches_in_body l.list.items) ++ l.rest }

abbrev pub decreases-loop-rest : goal.decreases-loop-rest
decreases-loop-rest l = length l.rest
