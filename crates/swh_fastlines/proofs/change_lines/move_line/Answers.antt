use Rattle.swh_fastlines.proofs.ChangeLines.{move_is, move_no}
use Rattle.swh_fastlines.proofs.change_lines.move_line.Goals as goal

pub returns-in-Is : goal.returns-in-Is
returns-in-Is c = let found = rw c.in-Is.is at c.in_ok-pair.ensures in move_is c.args.text.now c.in-Is.pair.source c.in-Is.pair.path found.0 found.1

pub returns-in-No : goal.returns-in-No
returns-in-No c = let found = rw c.in-No.is at c.in_ok-pair.ensures in move_no c.args.text.now found
