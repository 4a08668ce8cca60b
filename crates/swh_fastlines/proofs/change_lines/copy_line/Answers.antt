use Rattle.swh_fastlines.proofs.ChangeLines.{copy_is, copy_no}
use Rattle.swh_fastlines.proofs.change_lines.copy_line.Goals as goal

pub returns-in-Is : goal.returns-in-Is
returns-in-Is c = let found = rw c.in-Is.is at c.in_ok-pair.ensures in copy_is c.args.text.now c.in-Is.pair.source c.in-Is.pair.path found.0 found.1

pub returns-in-No : goal.returns-in-No
returns-in-No c = let found = rw c.in-No.is at c.in_ok-pair.ensures in copy_no c.args.text.now found
