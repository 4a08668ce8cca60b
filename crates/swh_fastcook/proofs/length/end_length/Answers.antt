use Rattle.swh_fastcook.proofs.Lengths.{end_counted}
use Rattle.swh_fastcook.proofs.length.end_length.Goals as goal

pub returns-in-Ok : goal.returns-in-Ok
returns-in-Ok g c =
    let took = c.in-Ok.ensures in
    end_counted (g.L.Look.archive c.args.look.now).bodies c.args.marks.now c.args.root c.put_end.new.taker.count took.0 took.1 took.2
