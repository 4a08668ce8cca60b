use Rattle.std.proofs.Common.{rules}
use Rattle.swh_outside.specs.Views.{disks}
use Rattle.swh_ingest.specs.Parts.{AreAllowed}
use Rattle.swh_ingest.specs.Owning.{attempt}
use Rattle.swh_keeperload.proofs.Loads.{load_ended, load_added, load_calls, load_held, load_stops, load_counts}
use Rattle.swh_keeperload.proofs.loading_parts.load_kept_parts.Goals as goal

pub returns-clause-ended : goal.returns-clause-ended
returns-clause-ended g c =
    let job = c.args.job.now in
    let A = AreAllowed (g.R.ReadsParts.gives job.read) job.opening c.args.input.now in
    load_ended g.N.Namer.id_of (disks g.D.Disk.tells g.D.Disk.file g.D.Disk.faults) A (attempt c.args.turn.now.worker.now.by job.origin.now job.kind job.date) c.args.keeper.now c.load_parts.new.writer c.load_parts.result c.load_parts.ensures.ended

pub returns-clause-adds : goal.returns-clause-adds
returns-clause-adds g c =
    let job = c.args.job.now in
    let A = AreAllowed (g.R.ReadsParts.gives job.read) job.opening c.args.input.now in
    load_added g.N.Namer.id_of (disks g.D.Disk.tells g.D.Disk.file g.D.Disk.faults) A (attempt c.args.turn.now.worker.now.by job.origin.now job.kind job.date) c.args.keeper.now c.load_parts.new.writer c.load_parts.result c.load_parts.ensures.ended c.load_parts.ensures.stops

pub returns-clause-calls : goal.returns-clause-calls
returns-clause-calls g c told =
    let job = c.args.job.now in
    let A = AreAllowed (g.R.ReadsParts.gives job.read) job.opening c.args.input.now in
    load_calls g.N.Namer.id_of (disks g.D.Disk.tells g.D.Disk.file g.D.Disk.faults) A (attempt c.args.turn.now.worker.now.by job.origin.now job.kind job.date) c.args.keeper.now c.load_parts.new.writer c.load_parts.result c.load_parts.ensures.ended c.load_parts.ensures.stops told

pub returns-clause-wounded : goal.returns-clause-wounded
returns-clause-wounded g c n some =
    let job = c.args.job.now in
    let A = AreAllowed (g.R.ReadsParts.gives job.read) job.opening c.args.input.now in
    load_held g.N.Namer.id_of (disks g.D.Disk.tells g.D.Disk.file g.D.Disk.faults) A (attempt c.args.turn.now.worker.now.by job.origin.now job.kind job.date) c.args.keeper.now c.load_parts.new.writer c.load_parts.result c.load_parts.ensures.ended c.load_parts.ensures.stops n some

pub returns-clause-stops : goal.returns-clause-stops
returns-clause-stops g c =
    let job = c.args.job.now in
    let A = AreAllowed (g.R.ReadsParts.gives job.read) job.opening c.args.input.now in
    load_stops g.N.Namer.id_of (disks g.D.Disk.tells g.D.Disk.file g.D.Disk.faults) A (attempt c.args.turn.now.worker.now.by job.origin.now job.kind job.date) c.args.keeper.now c.load_parts.new.writer c.load_parts.result c.load_parts.ensures.stops

pub returns-clause-later : goal.returns-clause-later
returns-clause-later g c =
    let job = c.args.job.now in
    let A = AreAllowed (g.R.ReadsParts.gives job.read) job.opening c.args.input.now in
    load_counts g.N.Namer.id_of (disks g.D.Disk.tells g.D.Disk.file g.D.Disk.faults) A (attempt c.args.turn.now.worker.now.by job.origin.now job.kind job.date) c.args.keeper.now c.load_parts.new.writer c.load_parts.result c.load_parts.ensures.ended c.load_parts.ensures.stops

pub load_parts-requires-clause-fits : goal.load_parts-requires-clause-fits
load_parts-requires-clause-fits g c κs within = (
  λ s e ready. search rules,
  λ s e r t ready post. record { looks = post.0; standing = post.1 },
  λ s name ready. search rules,
  λ s name r t ready post. record { looks = post.0; held = post.1 },
  λ s snapshot names may. let ready = may.ready in search rules,
  λ s snapshot names r t may post. record { looks = post.2.0; root = post.2.1 },
  λ s plan. search rules,
  λ s plan r t post. record { ok = post.0; err = post.1 },
)
