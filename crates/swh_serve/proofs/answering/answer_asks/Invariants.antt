use Rattle.std.proofs.Common.{◌≡◌, ◌<◌, take}
use Rattle.swh_serve.specs.Turns.{requests_limit}
use Rattle.swh_serve.proofs.Replies.{RepliedSoFar}
use Rattle.swh_serve.proofs.answering.answer_asks.Given as goal

abbrev pub invariant-asks : goal.invariant-asks
invariant-asks g l = record {
  replied : RepliedSoFar (g.A.Desk.protocol l.desk l.date) g.K.Sink.tells l.fn.number (take l.ask-index l.asks) l.initial.seat l.seat (g.K.Sink.taken l.initial.sink) (g.K.Sink.taken l.sink) l.requests;
  few : l.requests < requests_limit;
  ready : (g.A.Desk.protocol l.desk l.date).ready l.seat;
  same_heard : g.K.Sink.heard l.sink ≡ g.K.Sink.heard l.initial.sink;
  same_count : g.K.Sink.faults l.sink ≡ g.K.Sink.faults l.initial.sink;
}
