use Rattle.std.proofs.Common.{sym}
use Rattle.swh_ingest.specs.Knowing.{held_in}
use Rattle.swh_ingest.specs.Owning.{IsBatchAmong}
use Rattle.swh_ingest.proofs.Steps.{adds_none}
use Rattle.swh_ingest.proofs.Waiting.{met_before, taken_new, taken_waiting}
use Rattle.swh_ingest.proofs.sending.let_wait.Goals as goal

pub returns-in-New-clause-taken : goal.returns-in-New-clause-taken
returns-in-New-clause-taken g c =
    let w = g.P.Destination.protocol c.args.destination.now in
    taken_new g.N.Namer.id_of w.alone (held_in (w.known c.args.writer.now)) c.args.pending c.join.new.self c.args.object c.name-name.ensures.good c.requires.waiting c.requires.room c.requires.absent (rw c.in-New.is at c.in-Ok.ensures)

pub returns-in-New-clause-adds : goal.returns-in-New-clause-adds
returns-in-New-clause-adds g c = adds_none g.N.Namer.id_of (g.P.Destination.protocol c.args.destination.now) (g.met.P.Destination.lawful c.args.destination.now) (IsBatchAmong (g.P.Destination.protocol c.args.destination.now).alone c.args.pending.objects.items) c.args.writer.now c.requires.ready

pub returns-in-Known-clause-taken : goal.returns-in-Known-clause-taken
returns-in-Known-clause-taken g c =
    let w = g.P.Destination.protocol c.args.destination.now in
    let j = rw c.in-Known.is at c.in-Ok.ensures in
    taken_waiting g.N.Namer.id_of w.alone (held_in (w.known c.args.writer.now)) c.args.pending c.join.new.self c.args.object c.requires.waiting j.0 j.1

pub returns-in-Known-clause-adds : goal.returns-in-Known-clause-adds
returns-in-Known-clause-adds g c = adds_none g.N.Namer.id_of (g.P.Destination.protocol c.args.destination.now) (g.met.P.Destination.lawful c.args.destination.now) (IsBatchAmong (g.P.Destination.protocol c.args.destination.now).alone c.args.pending.objects.items) c.args.writer.now c.requires.ready

pub returns-in-Ok-send_before-clause-taken : goal.returns-in-Ok-send_before-clause-taken
returns-in-Ok-send_before-clause-taken g c =
    let w = g.P.Destination.protocol c.args.destination.now in
    met_before (held_in (w.known c.send_before.new.writer)) c.args.pending c.join.new.self c.args.object c.in-Ok-send_before.name c.requires.waiting.held (rw c.in-Other.is at c.in-Ok.ensures)
    (λ other. c.in-Ok-send_before.ensures.met c.args.object (sym c.name-name.ensures.name) other)
