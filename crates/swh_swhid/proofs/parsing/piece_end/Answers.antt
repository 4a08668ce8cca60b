use Rattle.std.proofs.Common.{ap, ◌∙◌, take, get_or, arith}
use Rattle.std.proofs.lemmas.List.{take_more}
use Rattle.swh_swhid.specs.Reading.{is_whole}
use Rattle.swh_swhid.proofs.Wholes.{whole-push}
use Rattle.swh_swhid.proofs.parsing.piece_end.Goals as goal

pub loop-i-preserved : goal.loop-i-preserved
loop-i-preserved c = ap is_whole (take_more c.args.text.now c.loop-i.i 0 (omega arith)) ∙ whole-push (take c.loop-i.i c.args.text.now) (get_or c.args.text.now c.loop-i.i 0) c.loop-i.invariant c.if-c-eq59.false
