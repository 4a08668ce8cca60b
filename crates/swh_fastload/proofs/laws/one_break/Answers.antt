use Rattle.swh_fastload.proofs.BreakLaws.{one_fault, one_kind}
use Rattle.swh_fastload.proofs.laws.one_break.Goals as goal

pub returns-clause-fault : goal.returns-clause-fault
returns-clause-fault c = one_fault

pub returns-clause-kind : goal.returns-clause-kind
returns-clause-kind c = one_kind
