use Rattle.std.proofs.Common.{◌≡◌, rules, [], ◌∷◌, ◌++◌}
use Rattle.swh_ingest.specs.Knowing.{held_in}
use Rattle.swh_ingest.specs.Owning.{IsBatchAmong}
use Rattle.swh_ingest.proofs.Batches.{among_all}
use Rattle.swh_ingest.proofs.Steps.{adds_none, adds_ready}
use Rattle.swh_ingest.proofs.Waiting.{among_front, among_next, among_further, front_cut, met_among, took_next, took_in_hand, adds_more, stops_more}
use Rattle.swh_ingest.proofs.sending.send_part.Goals as goal

pub objects-init : goal.objects-init
objects-init g c =
    let w = g.P.Destination.protocol c.args.destination.now in
    let waiting = c.args.pending.objects.items in record {
      adds = adds_none g.N.Namer.id_of w (g.met.P.Destination.lawful c.args.destination.now) (IsBatchAmong w.alone (waiting ++ c.args.objects.items)) c.args.writer.now c.requires.ready;
      waits = c.requires.waiting;
      among = among_front waiting c.args.objects.items waiting (among_all waiting);
      keeps = λ e h. h;
      took = search rules;
    }

pub take_in-requires-clause-ready : goal.take_in-requires-clause-ready
take_in-requires-clause-ready g c κs within =
    let w = g.P.Destination.protocol c.args.destination.now in
    adds_ready g.N.Namer.id_of w (g.met.P.Destination.lawful c.args.destination.now) (IsBatchAmong w.alone (c.args.pending.objects.items ++ c.args.objects.items)) [] c.args.writer.now c.objects.writer c.objects.invariant.adds

pub objects-preserved : goal.objects-preserved
objects-preserved g c =
    let w = g.P.Destination.protocol c.args.destination.now in
    let id = g.N.Namer.id_of in
    let front = c.args.pending.objects.items in
    let all = front ++ c.args.objects.items in
    let waiting = c.objects.waiting.objects.items in
    let taken = rw c.in-Ok-Waits.field-0-is at c.in-Ok-Waits.ensures.taken in
    let before = c.objects.invariant in
    let took = before.took in
    let cut = front_cut front c.args.objects.items took.done c.objects.left.items took.cut in record {
      adds = adds_more id w (g.met.P.Destination.lawful c.args.destination.now) all waiting before.among c.args.writer.now c.objects.writer c.take_in.new.writer before.adds c.in-Ok-Waits.ensures.adds;
      waits = taken.waiting;
      among = among_further all (waiting ++ c.in-Some.object ∷ []) c.in-Ok-Waits.waiting.objects.items (among_next all (front ++ took.done) c.objects.left.items c.pop_front.new.self.items c.in-Some.object waiting cut c.in-Some.ensures.items before.among) taken.among;
      keeps = λ e h. taken.keeps e (before.keeps e h);
      took = took_next id w.alone (held_in (w.known c.objects.writer)) (held_in (w.known c.take_in.new.writer)) c.objects.waiting c.in-Ok-Waits.waiting c.args.objects.items c.objects.left.items c.pop_front.new.self.items c.in-Some.object took c.in-Some.ensures.items taken;
    }

pub returns-in-Ok-Collides-clause-taken : goal.returns-in-Ok-Collides-clause-taken
returns-in-Ok-Collides-clause-taken g c =
    let w = g.P.Destination.protocol c.args.destination.now in
    let front = c.args.pending.objects.items in
    let all = front ++ c.args.objects.items in
    let waiting = c.objects.waiting.objects.items in
    let took = c.objects.invariant.took in
    let cut = front_cut front c.args.objects.items took.done c.objects.left.items took.cut in
    met_among (held_in (w.known c.take_in.new.writer)) all (waiting ++ c.in-Some.object ∷ []) c.in-Ok-Collides.name (among_next all (front ++ took.done) c.objects.left.items c.pop_front.new.self.items c.in-Some.object waiting cut c.in-Some.ensures.items c.objects.invariant.among) (rw c.in-Ok-Collides.field-0-is at c.in-Ok-Collides.ensures.taken)

pub returns-in-Ok-Collides-clause-adds : goal.returns-in-Ok-Collides-clause-adds
returns-in-Ok-Collides-clause-adds g c =
    adds_more g.N.Namer.id_of (g.P.Destination.protocol c.args.destination.now) (g.met.P.Destination.lawful c.args.destination.now) (c.args.pending.objects.items ++ c.args.objects.items) c.objects.waiting.objects.items c.objects.invariant.among c.args.writer.now c.objects.writer c.take_in.new.writer c.objects.invariant.adds c.in-Ok-Collides.ensures.adds

pub returns-in-Err-clause-stops : goal.returns-in-Err-clause-stops
returns-in-Err-clause-stops g c =
    stops_more g.N.Namer.id_of (g.P.Destination.protocol c.args.destination.now) (g.met.P.Destination.lawful c.args.destination.now) (c.args.pending.objects.items ++ c.args.objects.items) c.objects.waiting.objects.items c.objects.invariant.among c.args.writer.now c.objects.writer c.take_in.new.writer c.objects.invariant.adds c.in-Err.why c.in-Err.ensures.stops

pub returns-clause-taken : goal.returns-clause-taken
returns-clause-taken g c =
    let none : c.objects.left.items ≡ [] = search rules in
    let w = g.P.Destination.protocol c.args.destination.now in record {
      waiting = c.objects.invariant.waits;
      among = c.objects.invariant.among;
      keeps = c.objects.invariant.keeps;
      taken = took_in_hand g.N.Namer.id_of w.alone (held_in (w.known c.objects.writer)) c.objects.waiting c.args.objects.items c.objects.left.items c.objects.invariant.took none;
    }
