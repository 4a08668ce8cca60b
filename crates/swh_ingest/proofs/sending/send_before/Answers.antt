use Rattle.swh_ingest.specs.Knowing.{held_in}
use Rattle.swh_ingest.proofs.Waiting.{other_sent, met_front}
use Rattle.swh_ingest.proofs.sending.send_before.Goals as goal

pub returns-in-Ok-None-clause-met : goal.returns-in-Ok-None-clause-met
returns-in-Ok-None-clause-met g c e named other =
    let w = g.P.Destination.protocol c.args.destination.now in
    other_sent g.N.Namer.id_of w.alone (held_in (w.known c.flush.new.writer)) c.args.pending e c.args.name named other (rw c.in-Ok-None.field-0-is at c.in-Ok-None.ensures.sent)

pub returns-in-Ok-Some-clause-met : goal.returns-in-Ok-Some-clause-met
returns-in-Ok-Some-clause-met g c e named other =
    let w = g.P.Destination.protocol c.args.destination.now in
    met_front g.N.Namer.id_of w.alone (held_in (w.known c.flush.new.writer)) c.args.pending e c.in-Ok-Some.first (rw c.in-Ok-Some.field-0-is at c.in-Ok-Some.ensures.sent)
