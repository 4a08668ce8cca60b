use Rattle.std.proofs.Common.{◌≡◌, ◌≤◌, ℕ, ◌+◌, Result}
use Rattle.swh_outside.specs.Views.{disks}
use Rattle.swh_desk.specs.declared.tally.Tally.{Tally}
use Rattle.swh_desk.specs.declared.tally.ServeStop.{ServeStop}
use Rattle.swh_desk.specs.Links.{Hall, Telling, AreServedFrom, AreServed}
use Rattle.swh_desk.proofs.links.serve_links.Given as goal

abbrev pub invariant-links : goal.invariant-links
invariant-links g l =
    let t : Telling = record { doors = g.E.Doors.tells; links = g.E.L.Source.tells; clock = g.C.Clock.tells } in
    let D : Type 0 = g.row.D.Denot in
    let view : Hall D = record { keeper = l.keeper; back = g.E.Doors.given_back l.doors; time = g.C.Clock.time l.clock } in
    let first : Hall D =
    record { keeper = l.initial.keeper; back = g.E.Doors.given_back l.initial.doors; time = g.C.Clock.time l.initial.clock } in
    record {
      goes :
          (left : ℕ) (new : Hall D) (result : Result Tally ServeStop) → left + l._turn ≡ l.fn.connections
          → AreServedFrom g.N.Namer.id_of (disks g.D.Disk.tells g.D.Disk.file g.D.Disk.faults) t left l.tally view new result
          → AreServed g.N.Namer.id_of (disks g.D.Disk.tells g.D.Disk.file g.D.Disk.faults) t l.fn.connections first new result;
      served : l.tally.served ≡ l._turn;
      broken : l.tally.broken ≤ l._turn;
      starved : l.tally.starved ≤ l._turn;
      same_places : g.E.Doors.tells → g.E.Doors.places l.doors ≡ g.E.Doors.places l.initial.doors;
      same_doors : g.E.Doors.faults l.doors ≡ g.E.Doors.faults l.initial.doors;
      same_clock : g.C.Clock.faults l.clock ≡ g.C.Clock.faults l.initial.clock;
    }
