use Rattle.swh_ingest.proofs.Marks.{carried_opens, open_may, open_stops}
use Rattle.swh_ingest.proofs.visiting.open_visit.Goals as goal

pub returns-in-Ok-Opened-clause-opened : goal.returns-in-Ok-Opened-clause-opened
returns-in-Ok-Opened-clause-opened g c =
    carried_opens g.N.Namer.id_of (g.P.Destination.protocol c.args.destination.now) c.args.writer.now c.apply.new.writer c.args.origin.now c.args.kind c.args.date c.in-Ok-Opened.field-0 c.in-Ok-Opened.field-0-0 c.in-Ok-Opened.visit (rw c.in-Ok.ensures at c.in-Ok-Opened.ensures.ok) c.in-Ok-Opened.field-0-is

pub stopped-requires : goal.stopped-requires
stopped-requires g c = open_may g.N.Namer.id_of (g.P.Destination.protocol c.args.destination.now) c.args.writer.now c.apply.new.writer c.args.origin.now c.args.kind c.args.date c.in-Err.refusal (rw c.in-Ok.ensures at c.in-Err.ensures.err)

pub returns-in-Err-clause-stops : goal.returns-in-Err-clause-stops
returns-in-Err-clause-stops g c =
    open_stops g.N.Namer.id_of (g.P.Destination.protocol c.args.destination.now) c.args.writer.now c.apply.new.writer c.args.origin.now c.args.kind c.args.date c.in-Err.refusal c.stopped.result (rw c.in-Ok.ensures at c.in-Err.ensures.err) c.stopped.ensures
