use Rattle.std.proofs.Common.{rules, arith}
use Rattle.std.proofs.lemmas.Grind.{common_steps}
use Rattle.swh_fastlex.proofs.Pieces.{reads_more}
use Rattle.swh_fastlex.proofs.spelling.quoted_run.Goals as goal

pub pieces-preserved : goal.pieces-preserved
pieces-preserved c = reads_more c.args.pieces.now c.pieces.rest.now c.pieces.path.items c.in-Some.byte c.in-Some.length _ _ c.pieces.invariant c.in-Some.ensures.some (grind (arith, common_steps)) (search rules)
