use Rattle.std.proofs.Common.{sym, ◌∙◌}
use Rattle.swh_ingest.specs.Owning.{IsBatchAmong}
use Rattle.swh_ingest.proofs.Steps.{adds_none, adds_looks}
use Rattle.swh_ingest.proofs.Batches.{not_empty, carried_held, carried_adds, refused_may, refused_met_at, refused_looks, refused_stops}
use Rattle.swh_ingest.proofs.sending.flush.Goals as goal

pub returns-then-is_empty-clause-adds : goal.returns-then-is_empty-clause-adds
returns-then-is_empty-clause-adds g c = adds_none g.N.Namer.id_of (g.P.Destination.protocol c.args.destination.now) (g.met.P.Destination.lawful c.args.destination.now) (IsBatchAmong (g.P.Destination.protocol c.args.destination.now).alone c.args.pending.objects.items) c.args.writer.now c.requires.ready

pub returns-in-Ok-clause-sent : goal.returns-in-Ok-clause-sent
returns-in-Ok-clause-sent g c = carried_held g.N.Namer.id_of (g.P.Destination.protocol c.args.destination.now) c.args.writer.now c.apply.new.writer c.args.pending c.requires.waiting c.in-Ok.field-0 c.in-Ok.ensures.ok

pub returns-in-Ok-clause-adds : goal.returns-in-Ok-clause-adds
returns-in-Ok-clause-adds g c =
    let some = not_empty c.args.pending.objects (sym c.is_empty.ensures ∙ c.if-is_empty.false) in
    carried_adds g.N.Namer.id_of (g.P.Destination.protocol c.args.destination.now) c.args.writer.now c.apply.new.writer c.args.pending c.requires.waiting c.in-Ok.field-0 some c.in-Ok.ensures.ok

pub met_or_stopped-requires : goal.met_or_stopped-requires
met_or_stopped-requires g c = refused_may g.N.Namer.id_of (g.P.Destination.protocol c.args.destination.now) c.args.writer.now c.apply.new.writer c.args.pending c.requires.waiting c.in-Err.refusal c.in-Err.ensures.err

pub returns-in-Ok-met_or_stopped-clause-sent : goal.returns-in-Ok-met_or_stopped-clause-sent
returns-in-Ok-met_or_stopped-clause-sent g c = refused_met_at g.N.Namer.id_of (g.P.Destination.protocol c.args.destination.now) c.args.writer.now c.apply.new.writer c.args.pending c.requires.waiting c.in-Err.refusal c.in-Ok-met_or_stopped.name c.in-Ok-met_or_stopped.ensures.met c.in-Err.ensures.err

pub returns-in-Ok-met_or_stopped-clause-adds : goal.returns-in-Ok-met_or_stopped-clause-adds
returns-in-Ok-met_or_stopped-clause-adds g c =
    adds_looks g.N.Namer.id_of (g.P.Destination.protocol c.args.destination.now) (g.met.P.Destination.lawful c.args.destination.now) (IsBatchAmong (g.P.Destination.protocol c.args.destination.now).alone c.args.pending.objects.items) c.args.writer.now c.apply.new.writer
    (refused_looks g.N.Namer.id_of (g.P.Destination.protocol c.args.destination.now) c.args.writer.now c.apply.new.writer c.args.pending c.requires.waiting c.in-Err.refusal c.in-Ok-met_or_stopped.name c.in-Ok-met_or_stopped.ensures.met c.in-Err.ensures.err)

pub returns-clause-stops : goal.returns-clause-stops
returns-clause-stops g c =
    let some = not_empty c.args.pending.objects (sym c.is_empty.ensures ∙ c.if-is_empty.false) in
    refused_stops g.N.Namer.id_of (g.P.Destination.protocol c.args.destination.now) c.args.writer.now c.apply.new.writer c.args.pending c.requires.waiting c.in-Err.refusal c.in-Err-met_or_stopped.why some c.in-Err.ensures.err c.in-Err-met_or_stopped.ensures.stopped
