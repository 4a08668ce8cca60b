use Rattle.swh_fastlines.proofs.ChangeLines.{delete_is, delete_no}
use Rattle.swh_fastlines.proofs.change_lines.delete_line.Goals as goal

pub returns-in-Is : goal.returns-in-Is
returns-in-Is c = let found = rw c.in-Is.is at c.in_ok-path.ensures in delete_is c.args.text.now c.in-Is.path found

pub returns-in-No : goal.returns-in-No
returns-in-No c = let found = rw c.in-No.is at c.in_ok-path.ensures in delete_no c.args.text.now found
