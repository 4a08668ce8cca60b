use Rattle.std.proofs.Common.{[], ◌++◌}
use Rattle.std.proofs.lemmas.Result.{IfErr-weaker, on_ok_weaker}
use Rattle.swh_ingest.specs.Knowing.{held_in}
use Rattle.swh_ingest.specs.Owning.{IsBatchAmong, IsBatchAsked}
use Rattle.swh_ingest.specs.Sending.{AreSent, AreSentAfter}
use Rattle.swh_ingest.specs.Walking.{StopsNow, StopsAfter}
use Rattle.swh_ingest.proofs.Steps.{adds_ready, adds_within, on_sent}
use Rattle.swh_ingest.proofs.Waiting.{adds_more, sent_after, stops_next}
use Rattle.swh_ingest.proofs.sending.send_last.Goals as goal

pub flush-requires-clause-ready : goal.flush-requires-clause-ready
flush-requires-clause-ready g c κs within =
    let w = g.P.Destination.protocol c.args.destination.now in
    adds_ready g.N.Namer.id_of w (g.met.P.Destination.lawful c.args.destination.now) (IsBatchAmong w.alone (c.args.pending.objects.items ++ c.args.objects.items)) [] c.args.writer.now c.send_part.new.writer c.in-Ok-Waits.ensures.adds

pub flush-requires-clause-waiting : goal.flush-requires-clause-waiting
flush-requires-clause-waiting g c κs within = let taken = rw c.in-Ok-Waits.field-0-is at c.in-Ok-Waits.ensures.taken in taken.waiting

pub returns-in-Ok-Waits-clause-sent : goal.returns-in-Ok-Waits-clause-sent
returns-in-Ok-Waits-clause-sent g c =
    let w = g.P.Destination.protocol c.args.destination.now in
    let a = held_in (w.known c.args.writer.now) in
    let b = held_in (w.known c.send_part.new.writer) in
    let d = held_in (w.known c.flush.new.writer) in
    let taken = rw c.in-Ok-Waits.field-0-is at c.in-Ok-Waits.ensures.taken in
    let waiting = c.in-Ok-Waits.waiting in
    on_sent c.flush.result c.flush.ensures.adds (AreSent d waiting.objects.items) (AreSentAfter a c.args.pending c.args.objects.items d)
    (λ adds o. sent_after g.N.Namer.id_of w.alone a b d c.args.pending waiting c.args.objects.items o taken
    (adds_within g.N.Namer.id_of w (g.met.P.Destination.lawful c.args.destination.now) (IsBatchAmong w.alone waiting.objects.items) [] c.send_part.new.writer c.flush.new.writer adds)) c.flush.ensures.sent

pub returns-in-Ok-Waits-clause-adds : goal.returns-in-Ok-Waits-clause-adds
returns-in-Ok-Waits-clause-adds g c =
    let taken = rw c.in-Ok-Waits.field-0-is at c.in-Ok-Waits.ensures.taken in
    on_ok_weaker c.flush.result (adds_more g.N.Namer.id_of (g.P.Destination.protocol c.args.destination.now) (g.met.P.Destination.lawful c.args.destination.now) (c.args.pending.objects.items ++ c.args.objects.items) c.in-Ok-Waits.waiting.objects.items taken.among c.args.writer.now c.send_part.new.writer c.flush.new.writer c.in-Ok-Waits.ensures.adds) c.flush.ensures.adds

pub returns-in-Ok-Waits-clause-stops : goal.returns-in-Ok-Waits-clause-stops
returns-in-Ok-Waits-clause-stops g c =
    let w = g.P.Destination.protocol c.args.destination.now in
    let id = g.N.Namer.id_of in
    let all = c.args.pending.objects.items ++ c.args.objects.items in
    let waiting = c.in-Ok-Waits.waiting.objects.items in
    let taken = rw c.in-Ok-Waits.field-0-is at c.in-Ok-Waits.ensures.taken in
    IfErr-weaker c.flush.result (StopsNow id w (IsBatchAsked waiting) c.send_part.new.writer c.flush.new.writer) (StopsAfter id w (IsBatchAmong w.alone all) (IsBatchAsked all) [] c.args.writer.now c.flush.new.writer)
    (stops_next id w (g.met.P.Destination.lawful c.args.destination.now) all waiting taken.among c.args.writer.now c.send_part.new.writer c.flush.new.writer c.in-Ok-Waits.ensures.adds) c.flush.ensures.stops

pub returns-in-Ok-Collides-clause-sent : goal.returns-in-Ok-Collides-clause-sent
returns-in-Ok-Collides-clause-sent g c = rw c.in-Ok-Collides.field-0-is at c.in-Ok-Collides.ensures.taken
