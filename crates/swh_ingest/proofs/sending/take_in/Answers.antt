use Rattle.std.proofs.Common.{[]}
use Rattle.std.proofs.lemmas.Result.{IfOk-weaker, IfErr-weaker, on_ok_weaker}
use Rattle.swh_ingest.specs.Knowing.{held_in}
use Rattle.swh_ingest.specs.Owning.{IsBatchAmong, IsBatchAsked}
use Rattle.swh_ingest.specs.Sending.{TakesEntry}
use Rattle.swh_ingest.specs.Walking.{StopsAfter}
use Rattle.swh_ingest.proofs.Steps.{adds_ready, after_now}
use Rattle.swh_ingest.proofs.Waiting.{taken_roomy, met_front, adds_more, stops_more}
use Rattle.swh_ingest.proofs.sending.take_in.Goals as goal

pub take_seen-requires-clause-ready : goal.take_seen-requires-clause-ready
take_seen-requires-clause-ready g c κs within =
    let w = g.P.Destination.protocol c.args.destination.now in
    adds_ready g.N.Namer.id_of w (g.met.P.Destination.lawful c.args.destination.now) (IsBatchAmong w.alone c.args.pending.objects.items) [] c.args.writer.now c.make_room.new.writer c.in-Ok-Waits.ensures.adds

pub take_seen-requires-clause-waiting : goal.take_seen-requires-clause-waiting
take_seen-requires-clause-waiting g c κs within = let room = rw c.in-Ok-Waits.field-0-is at c.in-Ok-Waits.ensures.room in room.waiting

pub take_seen-requires-clause-room : goal.take_seen-requires-clause-room
take_seen-requires-clause-room g c κs within = let room = rw c.in-Ok-Waits.field-0-is at c.in-Ok-Waits.ensures.room in room.room

pub returns-in-Ok-Waits-clause-taken : goal.returns-in-Ok-Waits-clause-taken
returns-in-Ok-Waits-clause-taken g c =
    let w = g.P.Destination.protocol c.args.destination.now in
    let id = g.N.Namer.id_of in
    let a = held_in (w.known c.args.writer.now) in
    let b = held_in (w.known c.make_room.new.writer) in
    let d = held_in (w.known c.take_seen.new.writer) in
    let room = rw c.in-Ok-Waits.field-0-is at c.in-Ok-Waits.ensures.room in
    IfOk-weaker c.take_seen.result (TakesEntry id w.alone b c.in-Ok-Waits.waiting c.args.object d) (TakesEntry id w.alone a c.args.pending c.args.object d)
    (λ t. taken_roomy id w.alone a b d c.args.pending c.in-Ok-Waits.waiting c.args.object t room) c.take_seen.ensures.taken

pub returns-in-Ok-Waits-clause-adds : goal.returns-in-Ok-Waits-clause-adds
returns-in-Ok-Waits-clause-adds g c =
    let w = g.P.Destination.protocol c.args.destination.now in
    let room = rw c.in-Ok-Waits.field-0-is at c.in-Ok-Waits.ensures.room in
    on_ok_weaker c.take_seen.result (adds_more g.N.Namer.id_of w (g.met.P.Destination.lawful c.args.destination.now) c.args.pending.objects.items c.in-Ok-Waits.waiting.objects.items room.among c.args.writer.now c.make_room.new.writer c.take_seen.new.writer c.in-Ok-Waits.ensures.adds) c.take_seen.ensures.adds

pub returns-in-Ok-Waits-clause-stops : goal.returns-in-Ok-Waits-clause-stops
returns-in-Ok-Waits-clause-stops g c =
    let w = g.P.Destination.protocol c.args.destination.now in
    let id = g.N.Namer.id_of in
    let xs = c.args.pending.objects.items in
    let ys = c.in-Ok-Waits.waiting.objects.items in
    let a = c.args.writer.now in
    let b = c.make_room.new.writer in
    let d = c.take_seen.new.writer in
    let room = rw c.in-Ok-Waits.field-0-is at c.in-Ok-Waits.ensures.room in
    IfErr-weaker c.take_seen.result (StopsAfter id w (IsBatchAmong w.alone ys) (IsBatchAsked ys) [] b d) (StopsAfter id w (IsBatchAmong w.alone xs) (IsBatchAsked xs) [] a d)
    (stops_more id w (g.met.P.Destination.lawful c.args.destination.now) xs ys room.among a b d c.in-Ok-Waits.ensures.adds) c.take_seen.ensures.stops

pub returns-in-Ok-Collides-clause-taken : goal.returns-in-Ok-Collides-clause-taken
returns-in-Ok-Collides-clause-taken g c =
    let w = g.P.Destination.protocol c.args.destination.now in
    met_front g.N.Namer.id_of w.alone (held_in (w.known c.make_room.new.writer)) c.args.pending c.args.object c.in-Ok-Collides.name (rw c.in-Ok-Collides.field-0-is at c.in-Ok-Collides.ensures.room)

pub returns-in-Err-clause-stops : goal.returns-in-Err-clause-stops
returns-in-Err-clause-stops g c =
    let w = g.P.Destination.protocol c.args.destination.now in
    let xs = c.args.pending.objects.items in
    after_now g.N.Namer.id_of w (g.met.P.Destination.lawful c.args.destination.now) (IsBatchAmong w.alone xs) (IsBatchAsked xs) c.args.writer.now c.make_room.new.writer c.in-Err.why c.requires.ready c.in-Err.ensures.stops
