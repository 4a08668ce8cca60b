use Rattle.std.proofs.Common.{[]}
use Rattle.swh_ingest.specs.Knowing.{held_in}
use Rattle.swh_ingest.specs.Owning.{IsBatchAmong}
use Rattle.swh_ingest.proofs.Steps.{adds_none, adds_within}
use Rattle.swh_ingest.proofs.Waiting.{room_kept, room_made}
use Rattle.swh_ingest.proofs.sending.make_room.Goals as goal

pub returns-then-has_room-clause-room : goal.returns-then-has_room-clause-room
returns-then-has_room-clause-room g c =
    let w = g.P.Destination.protocol c.args.destination.now in
    room_kept g.N.Namer.id_of w.alone (held_in (w.known c.args.writer.now)) c.args.pending c.requires.waiting (c.has_room.ensures.0 c.if-has_room.true)

pub returns-then-has_room-clause-adds : goal.returns-then-has_room-clause-adds
returns-then-has_room-clause-adds g c = adds_none g.N.Namer.id_of (g.P.Destination.protocol c.args.destination.now) (g.met.P.Destination.lawful c.args.destination.now) (IsBatchAmong (g.P.Destination.protocol c.args.destination.now).alone c.args.pending.objects.items) c.args.writer.now c.requires.ready

pub returns-in-Ok-None-clause-room : goal.returns-in-Ok-None-clause-room
returns-in-Ok-None-clause-room g c =
    let w = g.P.Destination.protocol c.args.destination.now in
    room_made g.N.Namer.id_of w.alone (held_in (w.known c.args.writer.now)) (held_in (w.known c.flush.new.writer)) c.args.pending c.new.result
    (adds_within g.N.Namer.id_of w (g.met.P.Destination.lawful c.args.destination.now) (IsBatchAmong w.alone c.args.pending.objects.items) [] c.args.writer.now c.flush.new.writer c.in-Ok-None.ensures.adds)
    (rw c.in-Ok-None.field-0-is at c.in-Ok-None.ensures.sent) c.new.ensures.objects c.new.ensures.held c.new.ensures.bytes

pub returns-in-Ok-Some-clause-room : goal.returns-in-Ok-Some-clause-room
returns-in-Ok-Some-clause-room g c = rw c.in-Ok-Some.field-0-is at c.in-Ok-Some.ensures.sent
