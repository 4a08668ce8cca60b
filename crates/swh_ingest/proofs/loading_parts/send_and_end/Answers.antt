use Rattle.std.proofs.Common.{inl, [], ◌∷◌}
use Rattle.swh_ingest.specs.Knowing.{held_in}
use Rattle.swh_ingest.specs.Owning.{attempt_of}
use Rattle.swh_ingest.specs.Ending.{IsMarkOf, IsMarkAsked}
use Rattle.swh_ingest.specs.Loading.{IsOwn, IsOwnAsked, StopsFailing, last_at}
use Rattle.swh_ingest.specs.Parts.{AreGiven, IsBatchFor}
use Rattle.swh_ingest.specs.Walking.{Adds, StopsAfter}
use Rattle.swh_ingest.proofs.Ends.{mine_on}
use Rattle.swh_ingest.proofs.Loads.{err_as, ok_as}
use Rattle.swh_ingest.proofs.InHand.{ends_given, heard_sent, sent_closed}
use Rattle.swh_ingest.proofs.Owned.{batches_stop, batches_then_mark, batches_then_stop}
use Rattle.swh_ingest.proofs.Steps.{adds_ready}
use Rattle.swh_ingest.proofs.loading_parts.send_and_end.Goals as goal

pub end_sent-requires-clause-ready : goal.end_sent-requires-clause-ready
end_sent-requires-clause-ready g c κs within =
    let w = g.P.Destination.protocol c.args.destination.now in
    adds_ready g.N.Namer.id_of w (g.met.P.Destination.lawful c.args.destination.now) (IsBatchFor w.alone (AreGiven (g.R.ReadsParts.gives c.args.read.now) c.args.input.now)) [] c.args.writer.now c.send_parts.new.writer c.in-Ok.ensures.adds

pub end_sent-requires-clause-mine : goal.end_sent-requires-clause-mine
end_sent-requires-clause-mine g c κs within =
    let v = c.args.task.now.visit in
    let w = g.P.Destination.protocol c.args.destination.now in
    mine_on g.N.Namer.id_of w (g.met.P.Destination.lawful c.args.destination.now) (IsBatchFor w.alone (AreGiven (g.R.ReadsParts.gives c.args.read.now) c.args.input.now)) [] c.args.writer.now c.send_parts.new.writer (attempt_of v) v.number c.in-Ok.ensures.adds c.requires.mine

pub end_sent-requires-clause-closed : goal.end_sent-requires-clause-closed
end_sent-requires-clause-closed g c κs within =
    let w = g.P.Destination.protocol c.args.destination.now in
    sent_closed (g.R.ReadsParts.gives c.args.read.now) c.args.input.now g.N.Namer.id_of (held_in (w.known c.send_parts.new.writer)) c.send_parts.new.input c.in-Ok.sent c.requires.whole c.in-Ok.ensures.sent

pub returns-in-Ok-clause-end : goal.returns-in-Ok-clause-end
returns-in-Ok-clause-end g c =
    let v = c.args.task.now.visit in
    let w = g.P.Destination.protocol c.args.destination.now in
    ends_given (g.R.ReadsParts.gives c.args.read.now) c.args.input.now g.N.Namer.id_of w (g.met.P.Destination.lawful c.args.destination.now) (IsMarkOf (attempt_of v) v.number) c.send_parts.new.writer c.end_sent.new.writer c.send_parts.new.input c.in-Ok.sent c.end_sent.result c.end_sent.ensures.is c.end_sent.ensures.adds c.in-Ok.ensures.sent

pub returns-in-Ok-clause-adds : goal.returns-in-Ok-clause-adds
returns-in-Ok-clause-adds g c =
    let v = c.args.task.now.visit in
    let t = attempt_of v in
    let w = g.P.Destination.protocol c.args.destination.now in
    let A = AreGiven (g.R.ReadsParts.gives c.args.read.now) c.args.input.now in
    let m = c.send_parts.new.writer in
    let b = c.end_sent.new.writer in
    ok_as c.end_sent.result (λ end. Adds w (IsMarkOf t v.number) (last_at end ∷ []) m b) (λ end. Adds w (IsOwn w.alone A t v.number) (last_at end ∷ []) c.args.writer.now b)
    (λ end h. batches_then_mark g.N.Namer.id_of w (g.met.P.Destination.lawful c.args.destination.now) A t v.number (last_at end ∷ []) c.args.writer.now m b c.in-Ok.ensures.adds h) c.end_sent.ensures.adds

pub returns-in-Ok-clause-stops : goal.returns-in-Ok-clause-stops
returns-in-Ok-clause-stops g c =
    let v = c.args.task.now.visit in
    let t = attempt_of v in
    let id = g.N.Namer.id_of in
    let w = g.P.Destination.protocol c.args.destination.now in
    let A = AreGiven (g.R.ReadsParts.gives c.args.read.now) c.args.input.now in
    let m = c.send_parts.new.writer in
    let b = c.end_sent.new.writer in
    err_as c.end_sent.result (StopsAfter id w (IsMarkOf t v.number) (IsMarkAsked t v.number) [] m b) (StopsAfter id w (IsOwn w.alone A t v.number) (IsOwnAsked A t v.number) [] c.args.writer.now b)
    (λ why h. batches_then_stop id w (g.met.P.Destination.lawful c.args.destination.now) A t v.number c.args.writer.now m b why c.in-Ok.ensures.adds h) c.end_sent.ensures.stops

pub returns-in-Err-clause-stops : goal.returns-in-Err-clause-stops
returns-in-Err-clause-stops g c =
    let v = c.args.task.now.visit in
    let w = g.P.Destination.protocol c.args.destination.now in
    batches_stop g.N.Namer.id_of w (g.met.P.Destination.lawful c.args.destination.now) (AreGiven (g.R.ReadsParts.gives c.args.read.now) c.args.input.now) (attempt_of v) v.number c.args.writer.now c.send_parts.new.writer c.in-Err.why c.in-Err.ensures.stops

pub returns-in-Ok-clause-heard : goal.returns-in-Ok-clause-heard
returns-in-Ok-clause-heard g c =
    let v = c.args.task.now.visit in
    let w = g.P.Destination.protocol c.args.destination.now in
    heard_sent (g.R.ReadsParts.gives c.args.read.now) c.args.input.now (held_in (w.known c.send_parts.new.writer)) c.send_parts.new.input c.in-Ok.sent c.end_sent.result
    (StopsFailing g.N.Namer.id_of w (attempt_of v) v.number c.end_sent.new.writer) c.in-Ok.ensures.sent c.end_sent.ensures.failing

pub returns-in-Err-clause-heard : goal.returns-in-Err-clause-heard
returns-in-Err-clause-heard g c = inl c.in-Err.ensures.unbroken
