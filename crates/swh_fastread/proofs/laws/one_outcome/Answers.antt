use Rattle.swh_fastgrammar.proofs.Before.{one_fault_whole}
use Rattle.swh_fastgrammar.proofs.Streams.{one_reading}
use Rattle.swh_fastread.proofs.Outcomes.{two_limits, same_fault}
use Rattle.swh_fastread.proofs.laws.one_outcome.Goals as goal

pub returns-clause-stream : goal.returns-clause-stream
returns-clause-stream c = λ at p text cs ds s t. one_reading at p text cs ds s.stream t.stream

pub returns-clause-fault : goal.returns-clause-fault
returns-clause-fault c = λ at p text cs ds place other why because f g. one_fault_whole at p text cs ds place other why because (same_fault at p text cs place why f) (same_fault at p text ds other because g)

pub returns-clause-limit : goal.returns-clause-limit
returns-clause-limit c = two_limits
