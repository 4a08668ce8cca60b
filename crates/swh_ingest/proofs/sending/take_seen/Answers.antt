use Rattle.std.proofs.Common.{[], subst}
use Rattle.std.proofs.lemmas.Result.{IfOk-weaker, IfErr-weaker, on_ok_weaker}
use Rattle.swh_base.specs.declared.entry.Entry.{Entry}
use Rattle.swh_store.specs.Adding.{IsStanding}
use Rattle.swh_store.specs.declared.adding.Standing.TheVariants.{New, Known, Other}
use Rattle.swh_ingest.specs.Knowing.{held_in}
use Rattle.swh_ingest.specs.Owning.{IsBatchAmong, IsBatchAsked}
use Rattle.swh_ingest.specs.Sending.{TakesEntry}
use Rattle.swh_ingest.specs.Walking.{StopsNow, StopsAfter}
use Rattle.swh_ingest.proofs.Batches.{among_all}
use Rattle.swh_ingest.proofs.Steps.{adds_looks, adds_within, looks_bodies, after_looks}
use Rattle.swh_ingest.proofs.Waiting.{waits_on, taken_held, taken_other, taken_looked, adds_more, stops_next}
use Rattle.swh_ingest.proofs.sending.take_seen.Goals as goal

pub returns-in-Ok-Known-clause-taken : goal.returns-in-Ok-Known-clause-taken
returns-in-Ok-Known-clause-taken g c =
    let w = g.P.Destination.protocol c.args.destination.now in
    let law = g.met.P.Destination.lawful c.args.destination.now in
    let a = c.args.writer.now in
    let b = c.standing.new.writer in
    let P = IsBatchAmong w.alone c.args.pending.objects.items in
    taken_held g.N.Namer.id_of w.alone (held_in (w.known a)) (held_in (w.known b)) c.args.pending c.args.object
    (waits_on g.N.Namer.id_of w.alone (held_in (w.known a)) (held_in (w.known b)) c.args.pending (looks_bodies g.N.Namer.id_of w law a b c.standing.ensures.looks) c.requires.waiting)
    (adds_within g.N.Namer.id_of w law P [] a b (adds_looks g.N.Namer.id_of w law P a b c.standing.ensures.looks))
    (subst (λ (e : Entry). IsStanding (held_in (w.known b)) e Known) c.entry.ensures.entry (rw c.in-Ok-Known.field-0-is at c.in-Ok-Known.ensures.standing))

pub returns-in-Ok-Known-clause-adds : goal.returns-in-Ok-Known-clause-adds
returns-in-Ok-Known-clause-adds g c =
    let w = g.P.Destination.protocol c.args.destination.now in
    adds_looks g.N.Namer.id_of w (g.met.P.Destination.lawful c.args.destination.now) (IsBatchAmong w.alone c.args.pending.objects.items) c.args.writer.now c.standing.new.writer c.standing.ensures.looks

pub returns-in-Ok-Other-clause-taken : goal.returns-in-Ok-Other-clause-taken
returns-in-Ok-Other-clause-taken g c =
    let w = g.P.Destination.protocol c.args.destination.now in
    let b = c.standing.new.writer in
    taken_other g.N.Namer.id_of w.alone (held_in (w.known b)) c.args.pending c.args.object c.name-name.result c.name-name.ensures.name
    (subst (λ (e : Entry). IsStanding (held_in (w.known b)) e Other) c.entry.ensures.entry (rw c.in-Ok-Other.field-0-is at c.in-Ok-Other.ensures.standing))

pub returns-in-Ok-Other-clause-adds : goal.returns-in-Ok-Other-clause-adds
returns-in-Ok-Other-clause-adds g c =
    let w = g.P.Destination.protocol c.args.destination.now in
    adds_looks g.N.Namer.id_of w (g.met.P.Destination.lawful c.args.destination.now) (IsBatchAmong w.alone c.args.pending.objects.items) c.args.writer.now c.standing.new.writer c.standing.ensures.looks

pub let_wait-requires-clause-ready : goal.let_wait-requires-clause-ready
let_wait-requires-clause-ready g c κs within = (g.met.P.Destination.lawful c.args.destination.now).ready [] c.args.writer.now c.standing.new.writer c.standing.ensures.looks

pub let_wait-requires-clause-waiting : goal.let_wait-requires-clause-waiting
let_wait-requires-clause-waiting g c κs within =
    let w = g.P.Destination.protocol c.args.destination.now in
    let a = c.args.writer.now in
    let b = c.standing.new.writer in
    waits_on g.N.Namer.id_of w.alone (held_in (w.known a)) (held_in (w.known b)) c.args.pending (looks_bodies g.N.Namer.id_of w (g.met.P.Destination.lawful c.args.destination.now) a b c.standing.ensures.looks) c.requires.waiting

pub let_wait-requires-clause-absent : goal.let_wait-requires-clause-absent
let_wait-requires-clause-absent g c κs within =
    let w = g.P.Destination.protocol c.args.destination.now in
    let b = c.standing.new.writer in
    subst (λ (e : Entry). IsStanding (held_in (w.known b)) e New) c.entry.ensures.entry (rw c.in-Ok-New.field-0-is at c.in-Ok-New.ensures.standing)

pub returns-in-Ok-New-clause-taken : goal.returns-in-Ok-New-clause-taken
returns-in-Ok-New-clause-taken g c =
    let w = g.P.Destination.protocol c.args.destination.now in
    let law = g.met.P.Destination.lawful c.args.destination.now in
    let a = c.args.writer.now in
    let b = c.standing.new.writer in
    let d = c.let_wait.new.writer in
    let P = IsBatchAmong w.alone c.args.pending.objects.items in
    let id = g.N.Namer.id_of in
    IfOk-weaker c.let_wait.result (TakesEntry id w.alone (held_in (w.known b)) c.args.pending c.args.object (held_in (w.known d))) (TakesEntry id w.alone (held_in (w.known a)) c.args.pending c.args.object (held_in (w.known d)))
    (λ t. taken_looked id w.alone (held_in (w.known a)) (held_in (w.known b)) (held_in (w.known d)) c.args.pending c.args.object t (adds_within id w law P [] a b (adds_looks id w law P a b c.standing.ensures.looks))) c.let_wait.ensures.taken

pub returns-in-Ok-New-clause-adds : goal.returns-in-Ok-New-clause-adds
returns-in-Ok-New-clause-adds g c =
    let w = g.P.Destination.protocol c.args.destination.now in
    let law = g.met.P.Destination.lawful c.args.destination.now in
    let a = c.args.writer.now in
    let b = c.standing.new.writer in
    let objects = c.args.pending.objects.items in
    let id = g.N.Namer.id_of in
    on_ok_weaker c.let_wait.result (adds_more id w law objects objects (among_all objects) a b c.let_wait.new.writer (adds_looks id w law (IsBatchAmong w.alone objects) a b c.standing.ensures.looks)) c.let_wait.ensures.adds

pub returns-in-Ok-New-clause-stops : goal.returns-in-Ok-New-clause-stops
returns-in-Ok-New-clause-stops g c =
    let w = g.P.Destination.protocol c.args.destination.now in
    let law = g.met.P.Destination.lawful c.args.destination.now in
    let a = c.args.writer.now in
    let b = c.standing.new.writer in
    let d = c.let_wait.new.writer in
    let objects = c.args.pending.objects.items in
    let id = g.N.Namer.id_of in
    IfErr-weaker c.let_wait.result (StopsNow id w (IsBatchAsked objects) b d) (StopsAfter id w (IsBatchAmong w.alone objects) (IsBatchAsked objects) [] a d)
    (stops_next id w law objects objects (among_all objects) a b d (adds_looks id w law (IsBatchAmong w.alone objects) a b c.standing.ensures.looks)) c.let_wait.ensures.stops

pub returns-in-Err-clause-stops : goal.returns-in-Err-clause-stops
returns-in-Err-clause-stops g c =
    let w = g.P.Destination.protocol c.args.destination.now in
    let objects = c.args.pending.objects.items in
    after_looks g.N.Namer.id_of w (g.met.P.Destination.lawful c.args.destination.now) (IsBatchAmong w.alone objects) (IsBatchAsked objects) c.args.writer.now c.standing.new.writer c.standing.ensures.looks
