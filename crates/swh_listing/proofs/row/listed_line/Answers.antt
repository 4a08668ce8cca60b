use Rattle.swh_listing.proofs.Modes.{line_is, line_no_path}
use Rattle.swh_listing.proofs.row.listed_line.Goals as goal

pub returns-in-Is : goal.returns-in-Is
returns-in-Is c =
    let found = rw c.in-Is.is at c.in_ok-path.ensures in
    line_is c.args.line.now (record { mode = c.in-Some.mode; path = c.in-Is.path }) c.in-Some.text.now c.in-Some.ensures.some found

pub returns-in-No : goal.returns-in-No
returns-in-No c =
    let found = rw c.in-No.is at c.in_ok-path.ensures in
    line_no_path c.args.line.now c.in-Some.mode c.in-Some.text.now c.in-Some.ensures.some found
