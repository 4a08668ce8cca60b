use Rattle.std.proofs.Common.{◌≡◌, ◌-◌, ◌<◌, ℕ, List, Some, Result}
use Rattle.std.specs.Prelude.{vec_len}
use Rattle.swh_serve.specs.declared.fault.ServeFault.{ServeFault}
use Rattle.swh_serve.specs.declared.serving.Served.{Served}
use Rattle.swh_serve.specs.Pieces.{IsWaiting}
use Rattle.swh_serve.specs.Served.{Seen, seen, IsServedFrom, IsServed}
use Rattle.swh_serve.specs.Turns.{requests_limit, starved_reply}
use Rattle.swh_serve.proofs.Connections.{so_far, far}
use Rattle.swh_serve.proofs.serving.serve_over.Given as goal

abbrev pub invariant-pieces : goal.invariant-pieces
invariant-pieces g l = record {
  goes :
      (held : List ℕ) (s' : g.row.S.Denot) (new : Seen) (result : Result Served ServeFault) → l.reading.session ≡ Some held
      → IsServedFrom (g.A.Desk.protocol l.desk l.date) g.L.Source.tells l.requests held l.seat s'
      (seen g.L.Source.given g.L.Source.ended g.L.Sink.taken l.link) new result
      → IsServed (g.A.Desk.protocol l.desk l.date) g.L.Source.tells l.initial.seat s'
      (seen g.L.Source.given g.L.Source.ended g.L.Sink.taken l.initial.link) new result;
  waits : IsWaiting l.reading.session;
  room : 0 < vec_len l.reading.buffer;
  few : l.requests < requests_limit;
  ready : (g.A.Desk.protocol l.desk l.date).ready l.seat;
  same_count : g.L.Source.faults l.link ≡ g.L.Source.faults l.initial.link;
}

abbrev pub decreases-pieces : goal.decreases-pieces
decreases-pieces g l = far - so_far l.requests l.reading.session
