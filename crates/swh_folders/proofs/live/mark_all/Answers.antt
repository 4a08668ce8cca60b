use Rattle.std.proofs.Common.{◌∙◌, arith}
use Rattle.swh_folders.proofs.Lives.{mark-step, only-step}
use Rattle.swh_folders.proofs.live.mark_all.Goals as goal

pub loop-e-preserved : goal.loop-e-preserved
loop-e-preserved c =
    let inv = c.loop-e.invariant in
    record {
      as_long = c.mark.ensures.as_long ∙ inv.as_long;
      marked = mark-step c.args.base c.loop-e.live c.mark.new.live c.args.entries.now c.loop-e.e-index _ (omega arith) c.mark.ensures.more c.mark.ensures.marked inv.marked;
      more = λ j le h. c.mark.ensures.more j le (inv.more j le h);
      only = λ j le h. only-step c.args.base c.args.live.now c.loop-e.live c.mark.new.live c.args.entries.now c.loop-e.e-index _ j (c.mark.ensures.only j le) (inv.only j le) h;
    }
