use Rattle.std.proofs.Common.{List}
use Rattle.swh_fastgrammar.specs.declared.command.Command.{Command}
use Rattle.swh_fastrows.specs.Outcome.{IsStreamWithin, IsFaultWithin, PassesFirst}
use Rattle.swh_fastrows.specs.Places.{Position}
use Rattle.swh_fastread.proofs.Outcomes.{carries_with, stream_carries, fault_carries, limit_carries, starts_join}
use Rattle.swh_fastread.proofs.laws.starts_go_on.Goals as goal

pub returns-clause-stream : goal.returns-clause-stream
returns-clause-stream c = carries_with (λ (x : Position) (cs : List Command). IsStreamWithin x.at x.promised x.left cs) stream_carries

pub returns-clause-fault : goal.returns-clause-fault
returns-clause-fault c = λ a b front cs place why. carries_with (λ (x : Position) (ds : List Command). IsFaultWithin x.at x.promised x.left ds place why) (fault_carries place why) a b front cs

pub returns-clause-limit : goal.returns-clause-limit
returns-clause-limit c = λ a b front cs which number. carries_with (λ (x : Position) (ds : List Command). PassesFirst x.at x.promised x.left ds which number) (limit_carries which number) a b front cs

pub returns-clause-joined : goal.returns-clause-joined
returns-clause-joined c = starts_join
