use Rattle.std.proofs.Common.{sym, subst}
use Rattle.swh_model.specs.Archive.{Bodies}
use Rattle.swh_replay.specs.Happened.{AreWhole}
use Rattle.swh_replay.proofs.Collected.{whole-added}
use Rattle.swh_replay.proofs.happening.happen.Goals as goal

pub returns-in-Batch-clause-whole : goal.returns-in-Batch-clause-whole
returns-in-Batch-clause-whole c = λ t.
    let old = c.args.preloaded.now.shown.bodies in
    let closed = c.args.closed.now in
    let may = c.show_batch.ensures.may.0 t in
    subst (λ (b : Bodies). AreWhole b closed) (sym (c.show_batch.ensures.bodies t)) (whole-added old c.as_slice.result.now closed may.1 c.requires.whole)
