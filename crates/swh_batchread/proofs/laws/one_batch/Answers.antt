use Rattle.swh_batchread.proofs.Unique.{one_meaning, one_fault, never_both}
use Rattle.swh_batchread.proofs.laws.one_batch.Goals as goal

pub returns-clause-meaning : goal.returns-clause-meaning
returns-clause-meaning c = one_meaning

pub returns-clause-fault : goal.returns-clause-fault
returns-clause-fault c = one_fault

pub returns-clause-never_both : goal.returns-clause-never_both
returns-clause-never_both c = never_both
