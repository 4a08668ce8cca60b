use Rattle.std.proofs.Common.{◌++◌, sym, subst, codes}
use Rattle.swh_fastlines.proofs.ChangeLines.{Reads, set_is, set_no_path}
use Rattle.swh_fastlines.proofs.change_lines.set_line.Goals as goal

pub returns-in-Is : goal.returns-in-Is
returns-in-Is c =
    let found = rw c.in-Is.is at c.in_ok-path.ensures in
    subst (Reads (codes "M " ++ c.args.text.now)) (sym c.set_to.ensures) (set_is c.args.text.now c.in-Some.front.mode c.in-Some.front.what c.in-Some.front.rest.now c.in-Is.path c.in-Some.ensures.some found)

pub returns-in-No : goal.returns-in-No
returns-in-No c =
    let found = rw c.in-No.is at c.in_ok-path.ensures in
    set_no_path c.args.text.now c.in-Some.front.mode c.in-Some.front.what c.in-Some.front.rest.now c.in-Some.ensures.some found
