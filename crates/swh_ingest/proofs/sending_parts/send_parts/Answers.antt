use Rattle.std.proofs.Common.{◌≡◌, inl, refl, rules, sym, subst, [], ◌++◌}
use Rattle.std.proofs.lemmas.Result.{IfErr-weaker, on_ok_weaker}
use Rattle.swh_dedup.specs.Whole.{names_of}
use Rattle.swh_ingest.specs.Knowing.{held_in}
use Rattle.swh_ingest.specs.Owning.{IsBatchAmong, IsBatchAsked}
use Rattle.swh_ingest.specs.Parts.{AreGiven, IsBatchFor, IsBatchAskedFor, IsLastSent, IsNamed, IsSentSo}
use Rattle.swh_ingest.specs.Walking.{StopsAfter}
use Rattle.swh_ingest.proofs.InHand.{hand_none, hand_more, named_more, hand_sent, last_adds, last_sent, last_stops, part_adds, part_met, part_stops, read_on, unbroken_all, unbroken_none, unbroken_some}
use Rattle.swh_ingest.proofs.Loads.{both_ok, err_all}
use Rattle.swh_ingest.proofs.Steps.{adds_looks, adds_none, adds_ready, adds_then, adds_within, looks_bodies}
use Rattle.swh_ingest.proofs.Waiting.{taken_on, waits_none}
use Rattle.swh_ingest.proofs.sending_parts.send_parts.Goals as goal

pub parts-init : goal.parts-init
unfolding hand_none
parts-init g c =
    let w = g.P.Destination.protocol c.args.destination.now in
    let held = held_in (w.known c.args.writer.now) in
    let gives = g.R.ReadsParts.gives c.args.read.now in record {
      adds = adds_none g.N.Namer.id_of w (g.met.P.Destination.lawful c.args.destination.now) (IsBatchFor w.alone (AreGiven gives c.args.input.now)) c.args.writer.now c.requires.ready;
      waits = waits_none g.N.Namer.id_of w.alone held c.new-pending.result c.new-pending.ensures.objects c.new-pending.ensures.held c.new-pending.ensures.bytes;
      hand = hand_none gives c.args.input.now held c.new-pending.result c.new-pending.ensures.objects;
      names = c.new-names.ensures.items;
      takes = c.requires.takes;
    }

pub send_part-requires-clause-ready : goal.send_part-requires-clause-ready
send_part-requires-clause-ready g c κs within =
    let w = g.P.Destination.protocol c.args.destination.now in
    adds_ready g.N.Namer.id_of w (g.met.P.Destination.lawful c.args.destination.now) (IsBatchFor w.alone (AreGiven (g.R.ReadsParts.gives c.args.read.now) c.args.input.now)) [] c.args.writer.now c.parts.writer c.parts.invariant.adds

pub send_rest-requires-clause-ready : goal.send_rest-requires-clause-ready
send_rest-requires-clause-ready g c κs within =
    let w = g.P.Destination.protocol c.args.destination.now in
    adds_ready g.N.Namer.id_of w (g.met.P.Destination.lawful c.args.destination.now) (IsBatchFor w.alone (AreGiven (g.R.ReadsParts.gives c.args.read.now) c.args.input.now)) [] c.args.writer.now c.parts.writer c.parts.invariant.adds

pub parts-preserved : goal.parts-preserved
unfolding hand_more
parts-preserved g c =
    let w = g.P.Destination.protocol c.args.destination.now in
    let id = g.N.Namer.id_of in
    let law = g.met.P.Destination.lawful c.args.destination.now in
    let gives = g.R.ReadsParts.gives c.args.read.now in
    let i = c.args.input.now in
    let before = c.parts.invariant in
    let a = c.args.writer.now in
    let m = c.parts.writer in
    let p = c.parts.pending in
    let now = c.next.new.input in
    let b = c.send_part.new.writer in
    let d = c.share_held.new.writer in
    let P = IsBatchFor w.alone (AreGiven gives i) in
    let looks = c.share_held.ensures.looks in
    let given = rw c.in-Ok-Part.field-0-is at (rw c.in-Ok-Part.is at c.next.ensures.gives) in
    let taken = rw c.in-Ok-Waits.field-0-is at c.in-Ok-Waits.ensures.taken in
    let on = rw c.in-Ok-Part.field-0-is at (rw c.in-Ok-Part.is at c.next.ensures.on) in
    let added : c.add_names.new.names.items ≡ c.parts.names.items ++ names_of c.in-Ok-Part.objects.items = search rules in
    let still = taken_on id w.alone (held_in (w.known m)) (held_in (w.known b)) (held_in (w.known d)) p c.in-Ok-Waits.waiting c.in-Ok-Part.objects.items (looks_bodies id w law b d looks) (adds_within id w law P [] b d (adds_looks id w law P b d looks)) taken in
    record {
      adds = adds_then id w law P [] [] a b d (part_adds gives i id w law (held_in (w.known m)) p c.parts.input now before.hand a m b before.adds c.in-Ok-Part.objects given c.in-Ok-Waits.ensures.adds) (adds_looks id w law P b d looks);
      waits = still.waiting;
      hand = hand_more gives i id w.alone (held_in (w.known m)) (held_in (w.known d)) p c.in-Ok-Waits.waiting c.parts.input now c.share_held.new.input c.in-Ok-Part.objects before.hand given c.share_held.ensures.same still;
      names = named_more c.parts.names.items c.add_names.new.names.items before.hand.objects c.in-Ok-Part.objects.items before.names added;
      takes = subst (g.R.ReadsParts.takes c.args.read.now) (sym c.share_held.ensures.same) (on tt);
    }

pub share_held-requires-clause-ready : goal.share_held-requires-clause-ready
share_held-requires-clause-ready g c κs within =
    let w = g.P.Destination.protocol c.args.destination.now in
    adds_ready g.N.Namer.id_of w (g.met.P.Destination.lawful c.args.destination.now) (IsBatchAmong w.alone (c.parts.pending.objects.items ++ c.in-Ok-Part.objects.items)) [] c.parts.writer c.send_part.new.writer c.in-Ok-Waits.ensures.adds

pub share_held-requires-clause-takes : goal.share_held-requires-clause-takes
share_held-requires-clause-takes g c κs within = let on = rw c.in-Ok-Part.field-0-is at (rw c.in-Ok-Part.is at c.next.ensures.on) in on tt

pub parts-smaller : goal.parts-smaller
parts-smaller g c =
    let fewer = rw c.in-Ok-Part.field-0-is at (rw c.in-Ok-Part.is at c.next.ensures.fewer) in
    rw c.share_held.ensures.same (fewer tt)

pub returns-in_default-clause-stops : goal.returns-in_default-clause-stops
returns-in_default-clause-stops g c = record { mid = c.parts.writer; first = c.parts.invariant.adds; stops = inl (refl, refl) }

pub returns-in_default-clause-input : goal.returns-in_default-clause-input
returns-in_default-clause-input g c = read_on (g.R.ReadsParts.gives c.args.read.now) c.args.input.now c.parts.input c.next.new.input c.parts.invariant.hand.objects c.next.result c.parts.invariant.hand.so_far c.next.ensures.gives

pub returns-in-Ok-Collides-clause-sent : goal.returns-in-Ok-Collides-clause-sent
returns-in-Ok-Collides-clause-sent g c =
    let w = g.P.Destination.protocol c.args.destination.now in
    let id = g.N.Namer.id_of in
    let law = g.met.P.Destination.lawful c.args.destination.now in
    let gives = g.R.ReadsParts.gives c.args.read.now in
    let i = c.args.input.now in
    let before = c.parts.invariant in
    let a = c.args.writer.now in
    let m = c.parts.writer in
    let p = c.parts.pending in
    let now = c.next.new.input in
    let given = rw c.in-Ok-Part.field-0-is at (rw c.in-Ok-Part.is at c.next.ensures.gives) in
    part_met gives i (held_in (w.known m)) (held_in (w.known c.send_part.new.writer)) p c.parts.input now c.in-Ok-Part.objects c.in-Ok-Collides.name before.hand given (rw c.in-Ok-Collides.field-0-is at c.in-Ok-Collides.ensures.taken)

pub returns-in-Ok-Collides-clause-adds : goal.returns-in-Ok-Collides-clause-adds
returns-in-Ok-Collides-clause-adds g c =
    let w = g.P.Destination.protocol c.args.destination.now in
    let id = g.N.Namer.id_of in
    let law = g.met.P.Destination.lawful c.args.destination.now in
    let gives = g.R.ReadsParts.gives c.args.read.now in
    let i = c.args.input.now in
    let before = c.parts.invariant in
    let a = c.args.writer.now in
    let m = c.parts.writer in
    let p = c.parts.pending in
    let now = c.next.new.input in
    let given = rw c.in-Ok-Part.field-0-is at (rw c.in-Ok-Part.is at c.next.ensures.gives) in
    part_adds gives i id w law (held_in (w.known m)) p c.parts.input now before.hand a m c.send_part.new.writer before.adds c.in-Ok-Part.objects given c.in-Ok-Collides.ensures.adds

pub returns-in-Ok-Collides-clause-input : goal.returns-in-Ok-Collides-clause-input
returns-in-Ok-Collides-clause-input g c = read_on (g.R.ReadsParts.gives c.args.read.now) c.args.input.now c.parts.input c.next.new.input c.parts.invariant.hand.objects c.next.result c.parts.invariant.hand.so_far c.next.ensures.gives

pub returns-in-Err-send_part-clause-stops : goal.returns-in-Err-send_part-clause-stops
returns-in-Err-send_part-clause-stops g c =
    let w = g.P.Destination.protocol c.args.destination.now in
    let id = g.N.Namer.id_of in
    let law = g.met.P.Destination.lawful c.args.destination.now in
    let gives = g.R.ReadsParts.gives c.args.read.now in
    let i = c.args.input.now in
    let before = c.parts.invariant in
    let a = c.args.writer.now in
    let m = c.parts.writer in
    let p = c.parts.pending in
    let now = c.next.new.input in
    let given = rw c.in-Ok-Part.field-0-is at (rw c.in-Ok-Part.is at c.next.ensures.gives) in
    part_stops gives i id w law (held_in (w.known m)) p c.parts.input now before.hand a m c.send_part.new.writer before.adds c.in-Ok-Part.objects c.in-Err-send_part.why given c.in-Err-send_part.ensures.stops

pub returns-in-Err-send_part-clause-input : goal.returns-in-Err-send_part-clause-input
returns-in-Err-send_part-clause-input g c = read_on (g.R.ReadsParts.gives c.args.read.now) c.args.input.now c.parts.input c.next.new.input c.parts.invariant.hand.objects c.next.result c.parts.invariant.hand.so_far c.next.ensures.gives

pub returns-in-Ok-Last-clause-sent : goal.returns-in-Ok-Last-clause-sent
returns-in-Ok-Last-clause-sent g c =
    let w = g.P.Destination.protocol c.args.destination.now in
    let id = g.N.Namer.id_of in
    let law = g.met.P.Destination.lawful c.args.destination.now in
    let gives = g.R.ReadsParts.gives c.args.read.now in
    let i = c.args.input.now in
    let before = c.parts.invariant in
    let a = c.args.writer.now in
    let m = c.parts.writer in
    let p = c.parts.pending in
    let now = c.next.new.input in
    let given = rw c.in-Ok-Last.field-0-is at (rw c.in-Ok-Last.is at c.next.ensures.gives) in
    let b = held_in (w.known c.send_rest.new.writer) in
    both_ok c.send_rest.result (IsLastSent (held_in (w.known m)) p c.in-Ok-Last.made b) (IsNamed (c.parts.names.items ++ names_of c.in-Ok-Last.made.objects.items)) (IsSentSo gives b i now)
    (λ s l named. last_sent gives i (held_in (w.known m)) b p c.parts.input now c.in-Ok-Last.made c.parts.names.items s before.hand before.names given l named) c.send_rest.ensures.sent c.send_rest.ensures.named

pub returns-in-Ok-Last-clause-adds : goal.returns-in-Ok-Last-clause-adds
returns-in-Ok-Last-clause-adds g c =
    let w = g.P.Destination.protocol c.args.destination.now in
    let id = g.N.Namer.id_of in
    let law = g.met.P.Destination.lawful c.args.destination.now in
    let gives = g.R.ReadsParts.gives c.args.read.now in
    let i = c.args.input.now in
    let before = c.parts.invariant in
    let a = c.args.writer.now in
    let m = c.parts.writer in
    let p = c.parts.pending in
    let now = c.next.new.input in
    let given = rw c.in-Ok-Last.field-0-is at (rw c.in-Ok-Last.is at c.next.ensures.gives) in
    on_ok_weaker c.send_rest.result (last_adds gives i id w law (held_in (w.known m)) p c.parts.input now before.hand a m c.send_rest.new.writer before.adds c.in-Ok-Last.made given) c.send_rest.ensures.adds

pub returns-in-Ok-Last-clause-stops : goal.returns-in-Ok-Last-clause-stops
returns-in-Ok-Last-clause-stops g c =
    let w = g.P.Destination.protocol c.args.destination.now in
    let id = g.N.Namer.id_of in
    let law = g.met.P.Destination.lawful c.args.destination.now in
    let gives = g.R.ReadsParts.gives c.args.read.now in
    let i = c.args.input.now in
    let before = c.parts.invariant in
    let a = c.args.writer.now in
    let m = c.parts.writer in
    let p = c.parts.pending in
    let now = c.next.new.input in
    let given = rw c.in-Ok-Last.field-0-is at (rw c.in-Ok-Last.is at c.next.ensures.gives) in
    let all = p.objects.items ++ c.in-Ok-Last.made.objects.items in
    let b = c.send_rest.new.writer in
    IfErr-weaker c.send_rest.result (StopsAfter id w (IsBatchAmong w.alone all) (IsBatchAsked all) [] m b) (StopsAfter id w (IsBatchFor w.alone (AreGiven gives i)) (IsBatchAskedFor (AreGiven gives i)) [] a b)
    (λ why. last_stops gives i id w law (held_in (w.known m)) p c.parts.input now before.hand a m b before.adds c.in-Ok-Last.made why given) c.send_rest.ensures.stops

pub returns-in-Ok-Last-clause-input : goal.returns-in-Ok-Last-clause-input
returns-in-Ok-Last-clause-input g c = read_on (g.R.ReadsParts.gives c.args.read.now) c.args.input.now c.parts.input c.next.new.input c.parts.invariant.hand.objects c.next.result c.parts.invariant.hand.so_far c.next.ensures.gives

pub returns-in-Ok-Bad-clause-sent : goal.returns-in-Ok-Bad-clause-sent
returns-in-Ok-Bad-clause-sent g c =
    let w = g.P.Destination.protocol c.args.destination.now in
    let before = c.parts.invariant in record {
      broke = record {
        front = before.hand.objects;
        mid = c.parts.input;
        so_far = before.hand.so_far;
        gives = rw c.in-Ok-Bad.field-0-is at (rw c.in-Ok-Bad.is at c.next.ensures.gives);
      };
      sent = hand_sent (g.R.ReadsParts.gives c.args.read.now) c.args.input.now g.N.Namer.id_of w.alone (held_in (w.known c.parts.writer)) c.parts.pending c.parts.input before.hand before.waits;
    }

pub returns-in-Ok-Bad-clause-input : goal.returns-in-Ok-Bad-clause-input
returns-in-Ok-Bad-clause-input g c = read_on (g.R.ReadsParts.gives c.args.read.now) c.args.input.now c.parts.input c.next.new.input c.parts.invariant.hand.objects c.next.result c.parts.invariant.hand.so_far c.next.ensures.gives

pub returns-in-Err-clause-stops : goal.returns-in-Err-clause-stops
returns-in-Err-clause-stops g c = record { mid = c.parts.writer; first = c.parts.invariant.adds; stops = inl (refl, refl) }

pub returns-in-Err-clause-input : goal.returns-in-Err-clause-input
returns-in-Err-clause-input g c = read_on (g.R.ReadsParts.gives c.args.read.now) c.args.input.now c.parts.input c.next.new.input c.parts.invariant.hand.objects c.next.result c.parts.invariant.hand.so_far c.next.ensures.gives

pub returns-in_default-clause-unbroken : goal.returns-in_default-clause-unbroken
returns-in_default-clause-unbroken g c =
    unbroken_some (g.R.ReadsParts.gives c.args.read.now) c.args.input.now c.parts.input c.next.new.input c.parts.invariant.hand.objects c.in-Ok-Part.objects c.parts.invariant.hand.so_far (rw c.in-Ok-Part.field-0-is at (rw c.in-Ok-Part.is at c.next.ensures.gives))

pub returns-in-Err-send_part-clause-unbroken : goal.returns-in-Err-send_part-clause-unbroken
returns-in-Err-send_part-clause-unbroken g c =
    unbroken_some (g.R.ReadsParts.gives c.args.read.now) c.args.input.now c.parts.input c.next.new.input c.parts.invariant.hand.objects c.in-Ok-Part.objects c.parts.invariant.hand.so_far (rw c.in-Ok-Part.field-0-is at (rw c.in-Ok-Part.is at c.next.ensures.gives))

pub returns-in-Ok-Last-clause-unbroken : goal.returns-in-Ok-Last-clause-unbroken
returns-in-Ok-Last-clause-unbroken g c =
    err_all c.send_rest.result _
    (λ why. unbroken_all (g.R.ReadsParts.gives c.args.read.now) c.args.input.now c.parts.input c.next.new.input c.parts.invariant.hand.objects c.in-Ok-Last.made c.parts.invariant.hand.so_far (rw c.in-Ok-Last.field-0-is at (rw c.in-Ok-Last.is at c.next.ensures.gives)))

pub returns-in-Err-clause-unbroken : goal.returns-in-Err-clause-unbroken
returns-in-Err-clause-unbroken g c =
    unbroken_none (g.R.ReadsParts.gives c.args.read.now) c.args.input.now c.parts.input c.next.new.input c.parts.invariant.hand.objects _ c.parts.invariant.hand.so_far (rw c.in-Err.is at c.next.ensures.gives)
