use Rattle.swh_fastgrammar.proofs.Faults.{no_fault}
use Rattle.swh_fastread.proofs.Outcomes.{stream_or_limit, fault_or_limit, same_fault}
use Rattle.swh_fastread.proofs.laws.one_kind.Goals as goal

pub returns-clause-no_fault : goal.returns-clause-no_fault
returns-clause-no_fault c = λ at p text cs ds place why s f. no_fault at p text cs ds place why s.stream (same_fault at p text ds place why f)

pub returns-clause-stream_or_limit : goal.returns-clause-stream_or_limit
returns-clause-stream_or_limit c = stream_or_limit

pub returns-clause-fault_or_limit : goal.returns-clause-fault_or_limit
returns-clause-fault_or_limit c = fault_or_limit
