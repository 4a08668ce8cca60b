use Rattle.swh_fastlines.proofs.SetFronts.{no_file_space, no_file_mark}
use Rattle.swh_fastlines.proofs.change_lines.file_front.Goals as goal

pub returns-in_default-split_at_byte-clause-none : goal.returns-in_default-split_at_byte-clause-none
returns-in_default-split_at_byte-clause-none c = no_file_space c.args.text.now c.in-Some-behind.marked.now c.in-Some-behind.ensures.some c.in_default-split_at_byte.ensures.none

pub returns-in_default-mark_of-clause-none : goal.returns-in_default-mark_of-clause-none
returns-in_default-mark_of-clause-none c =
    let cut = c.in-Some-split_at_byte.ensures.some in
    no_file_mark c.args.text.now c.in-Some-behind.marked.now c.in-Some-split_at_byte.number.now c.in-Some-split_at_byte.rest.now c.in-Some-behind.ensures.some cut.0 cut.1 c.in_default-mark_of.ensures.none
