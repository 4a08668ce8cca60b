use Rattle.std.proofs.Common.{rules, ◌≡◌, ◌≤◌, ◌<◌, ℕ, ◌+◌, ◌-◌, Ok, Err, arith, ◌∙◌}
use Rattle.swh_outside.specs.Views.{disks, Disks}
use Rattle.swh_desk.specs.Links.{Hall, Telling, one_if_broken, one_if_starved}
use Rattle.swh_desk.proofs.InTurn.{broken-once, starved-once, one-further, none-left, stopped-at}
use Rattle.swh_desk.proofs.links.serve_links.Goals as goal

pub returns-in-Err-clause-served : goal.returns-in-Err-clause-served
returns-in-Err-clause-served g c =
    let t : Telling = record { doors = g.E.Doors.tells; links = g.E.L.Source.tells; clock = g.C.Clock.tells } in
    let D : Type 0 = g.row.D.Denot in
    let view : Hall D =
    record { keeper = c.links.keeper; back = g.E.Doors.given_back c.links.doors; time = g.C.Clock.time c.links.clock } in
    let new : Hall D =
    record { keeper = c.serve_next.new.keeper; back = g.E.Doors.given_back c.serve_next.new.doors; time = g.C.Clock.time c.serve_next.new.clock } in
    let left : ℕ = c.args.connections - c.links._turn in
    let more : c.links._turn < c.args.connections = c.links-test.true in
    let whole : left + c.links._turn ≡ c.args.connections = omega (arith, more) in
    let some : 0 < left = omega (arith, more) in
    c.links.invariant.goes left new (Err c.in-Err.stop) whole
    (stopped-at g.N.Namer.id_of (disks g.D.Disk.tells g.D.Disk.file g.D.Disk.faults) t left c.links.tally view new c.in-Err.stop some c.in-Err.ensures.turn)

pub links-preserved : goal.links-preserved
links-preserved g c =
    let t : Telling = record { doors = g.E.Doors.tells; links = g.E.L.Source.tells; clock = g.C.Clock.tells } in
    let D : Type 0 = g.row.D.Denot in
    let view : Hall D =
    record { keeper = c.links.keeper; back = g.E.Doors.given_back c.links.doors; time = g.C.Clock.time c.links.clock } in
    let mid : Hall D =
    record { keeper = c.serve_next.new.keeper; back = g.E.Doors.given_back c.serve_next.new.doors; time = g.C.Clock.time c.serve_next.new.clock } in
    let broken : one_if_broken c.in-Ok.ended ≤ 1 = broken-once c.in-Ok.ended in
    let starved : one_if_starved c.in-Ok.ended ≤ 1 = starved-once c.in-Ok.ended in
    let i = c.links.invariant in
    record {
      goes = λ left new result is served.
          i.goes (left + 1) new result (let same : left + (c.links._turn + 1) ≡ c.args.connections = is in omega (arith, same))
          (one-further g.N.Namer.id_of (disks g.D.Disk.tells g.D.Disk.file g.D.Disk.faults) t left c.links.tally c.add.new.self c.in-Ok.ended
          view mid new result c.add.ensures.served c.add.ensures.broken c.add.ensures.starved c.in-Ok.ensures.turn served);
      served = omega (arith, c.add.ensures.served, i.served);
      broken = omega (arith, c.add.ensures.broken, i.broken, broken);
      starved = omega (arith, c.add.ensures.starved, i.starved, starved);
      same_places = λ tells. c.serve_next.ensures.same_places tells ∙ i.same_places tells;
      same_doors = search rules;
      same_clock = search rules;
    }

pub returns-clause-served : goal.returns-clause-served
returns-clause-served g c =
    let t : Telling = record { doors = g.E.Doors.tells; links = g.E.L.Source.tells; clock = g.C.Clock.tells } in
    let D : Type 0 = g.row.D.Denot in
    let view : Hall D =
    record { keeper = c.links.keeper; back = g.E.Doors.given_back c.links.doors; time = g.C.Clock.time c.links.clock } in
    let whole : 0 + c.links._turn ≡ c.args.connections =
    let over = c.links-test.false in let within = c.links.auto._turn-end in omega (arith, over, within) in
    c.links.invariant.goes 0 view (Ok c.links.tally) whole
    (none-left g.N.Namer.id_of (disks g.D.Disk.tells g.D.Disk.file g.D.Disk.faults) t c.links.tally view)
