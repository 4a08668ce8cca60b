use Rattle.swh_plan.specs.Plan.{status_of, snapshot_of}
use Rattle.swh_ingest.specs.Owning.{attempt_of}
use Rattle.swh_ingest.proofs.Marks.{carried_last, carried_mark, mark_may, mark_stops}
use Rattle.swh_ingest.proofs.visiting.mark.Goals as goal

pub returns-in-Ok-apply-clause-marked : goal.returns-in-Ok-apply-clause-marked
returns-in-Ok-apply-clause-marked g c =
    let v = c.args.visit.now in
    carried_last g.N.Namer.id_of (g.P.Destination.protocol c.args.destination.now) c.args.writer.now c.apply.new.writer (attempt_of v) v.number (status_of c.args.how) (snapshot_of c.args.how) c.requires.mine c.in-Ok-apply.field-0 (rw c.in-Ok.ensures at c.in-Ok-apply.ensures.ok)

pub returns-in-Ok-apply-clause-adds : goal.returns-in-Ok-apply-clause-adds
returns-in-Ok-apply-clause-adds g c =
    let v = c.args.visit.now in
    carried_mark g.N.Namer.id_of (g.P.Destination.protocol c.args.destination.now) c.args.writer.now c.apply.new.writer (attempt_of v) v.number (status_of c.args.how) (snapshot_of c.args.how) c.requires.mine c.in-Ok-apply.field-0 (rw c.in-Ok.ensures at c.in-Ok-apply.ensures.ok)

pub stopped-requires : goal.stopped-requires
stopped-requires g c =
    let v = c.args.visit.now in
    mark_may g.N.Namer.id_of (g.P.Destination.protocol c.args.destination.now) c.args.writer.now c.apply.new.writer (attempt_of v) v.number (status_of c.args.how) (snapshot_of c.args.how) c.requires.mine c.in-Err.refusal c.requires.allowed (rw c.in-Ok.ensures at c.in-Err.ensures.err)

pub returns-in-Err-clause-stops : goal.returns-in-Err-clause-stops
returns-in-Err-clause-stops g c =
    let v = c.args.visit.now in
    mark_stops g.N.Namer.id_of (g.P.Destination.protocol c.args.destination.now) c.args.writer.now c.apply.new.writer (attempt_of v) v.number (status_of c.args.how) (snapshot_of c.args.how) c.requires.mine c.in-Err.refusal c.stopped.result c.requires.allowed (rw c.in-Ok.ensures at c.in-Err.ensures.err) c.stopped.ensures
