use Rattle.std.proofs.Common.{rules, refl}
use Rattle.swh_graph.specs.Holding.{HoldsDirectory}
use Rattle.swh_graph.proofs.Ways.{nowhere_in}
use Rattle.swh_graph.proofs.paths.entry_in.Goals as goal

pub returns-in-Some-clause-ok : goal.returns-in-Some-clause-ok
returns-in-Some-clause-ok g c =
    let held = c.in_ok-body.ensures.ok in
    let found = c.in-Some.ensures.some held.entries held.is in
    record {
      folder = search rules;
      entries = held.entries;
      holds = record { body = c.in_ok-body.body.now; held = held.held; is = held.is };
      there = found.0;
      named = found.1;
    }

pub returns-in-None-clause-err : goal.returns-in-None-clause-err
returns-in-None-clause-err g c =
    let held = c.in_ok-body.ensures.ok in
    let holds : HoldsDirectory (g.L.Look.archive c.args.look.now).bodies c.args.place held.entries = record { body = c.in_ok-body.body.now; held = held.held; is = held.is } in (
      refl,
      nowhere_in (g.L.Look.archive c.args.look.now).bodies c.args.place c.args.component.now held.entries holds (c.in-None.ensures.none held.entries held.is),
    )
