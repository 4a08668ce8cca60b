use Rattle.swh_batchread.proofs.UniqueRefs.{refs_mean_one, refs_break_once, refs_never_both}
use Rattle.swh_batchread.proofs.laws.one_refs.Goals as goal

pub returns-clause-meaning : goal.returns-clause-meaning
returns-clause-meaning c = refs_mean_one

pub returns-clause-fault : goal.returns-clause-fault
returns-clause-fault c = refs_break_once

pub returns-clause-never_both : goal.returns-clause-never_both
returns-clause-never_both c = refs_never_both
