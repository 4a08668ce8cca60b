use Rattle.std.proofs.Common.{arith}
use Rattle.swh_pathwalk.proofs.Levels.{popped_more}
use Rattle.swh_pathwalk.proofs.stepping.pop_with_entries.Goals as goal

pub loop-level-preserved : goal.loop-level-preserved
loop-level-preserved c =
    let long = c.if-level-len.false in
    let len = c.len.ensures in
    popped_more c.args.levels.now.items c.loop-level.levels.items c.pop.new.self.items c.in-Some.level c.in-Some.ensures.items (omega (arith, long, len)) c.loop-level.invariant
