use Rattle.std.proofs.Common.{inl, inr, refl}
use Rattle.swh_ingest.specs.Owning.{attempt}
use Rattle.swh_ingest.proofs.Loads.{opened_mine, opened_ready, opens_by}
use Rattle.swh_ingest.proofs.loading_parts.load_parts.Goals as goal

pub load_opened-requires-clause-ready : goal.load_opened-requires-clause-ready
load_opened-requires-clause-ready g c κs within =
    let job = c.args.job.now in
    let w = g.P.Destination.protocol c.args.destination.now in
    opened_ready g.N.Namer.id_of w (g.met.P.Destination.lawful c.args.destination.now) (attempt (w.known c.args.writer.now).number job.origin.now job.kind job.date) c.args.writer.now c.open_visit.new.writer c.in-Ok.number c.in-Ok.ensures.opened

pub load_opened-requires-clause-mine : goal.load_opened-requires-clause-mine
load_opened-requires-clause-mine g c κs within =
    let job = c.args.job.now in
    let by = c.args.turn.now.worker.now.by in
    let id = g.N.Namer.id_of in
    let w = g.P.Destination.protocol c.args.destination.now in
    let law = g.met.P.Destination.lawful c.args.destination.now in
    opened_mine id w law (attempt by job.origin.now job.kind job.date) c.args.writer.now c.open_visit.new.writer c.in-Ok.number c.requires.number
    (opens_by id w law job.origin.now job.kind job.date by c.args.writer.now c.open_visit.new.writer c.in-Ok.number c.requires.number c.in-Ok.ensures.opened)

pub returns-in-Ok-load_opened-clause-ended : goal.returns-in-Ok-load_opened-clause-ended
returns-in-Ok-load_opened-clause-ended g c =
    let job = c.args.job.now in
    let by = c.args.turn.now.worker.now.by in record {
      mid = c.open_visit.new.writer;
      opened = opens_by g.N.Namer.id_of (g.P.Destination.protocol c.args.destination.now) (g.met.P.Destination.lawful c.args.destination.now) job.origin.now job.kind job.date by c.args.writer.now c.open_visit.new.writer c.in-Ok.number c.requires.number c.in-Ok.ensures.opened;
      own = c.in-Ok-load_opened.ensures.adds;
      last = c.in-Ok-load_opened.ensures.last;
    }

pub returns-in-Err-clause-stops : goal.returns-in-Err-clause-stops
returns-in-Err-clause-stops g c = inl (record { no_visit = refl; now = c.in-Err.ensures.stops })

pub returns-in-Err-clause-input : goal.returns-in-Err-clause-input
returns-in-Err-clause-input g c = inl refl

pub returns-in-Err-load_opened-clause-stops : goal.returns-in-Err-load_opened-clause-stops
returns-in-Err-load_opened-clause-stops g c =
    let job = c.args.job.now in
    let by = c.args.turn.now.worker.now.by in inr (record {
      mid = c.open_visit.new.writer;
      opened = opens_by g.N.Namer.id_of (g.P.Destination.protocol c.args.destination.now) (g.met.P.Destination.lawful c.args.destination.now) job.origin.now job.kind job.date by c.args.writer.now c.open_visit.new.writer c.in-Ok.number c.requires.number c.in-Ok.ensures.opened;
      later = c.in-Err-load_opened.ensures.stops;
    })

pub returns-in-Err-clause-heard : goal.returns-in-Err-clause-heard
returns-in-Err-clause-heard g c = inl (inl refl)
