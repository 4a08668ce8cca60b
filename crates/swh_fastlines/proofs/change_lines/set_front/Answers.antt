use Rattle.swh_fastlines.proofs.SetFronts.{no_front_space, no_front_mode, no_front_file, front_is}
use Rattle.swh_fastlines.proofs.change_lines.set_front.Goals as goal

pub returns-in_default-split_at_byte-clause-none : goal.returns-in_default-split_at_byte-clause-none
returns-in_default-split_at_byte-clause-none c = no_front_space c.args.text.now c.in_default.ensures.none c.in_default-split_at_byte.ensures.none

pub returns-in_default-mode_of-clause-none : goal.returns-in_default-mode_of-clause-none
returns-in_default-mode_of-clause-none c =
    let cut = c.in-Some-split_at_byte.ensures.some in
    no_front_mode c.args.text.now c.in-Some-split_at_byte.word.now c.in-Some-split_at_byte.after.now c.in_default.ensures.none cut.0 cut.1 c.in_default-mode_of.ensures.none

pub returns-in_default-file_front-clause-none : goal.returns-in_default-file_front-clause-none
returns-in_default-file_front-clause-none c =
    let cut = c.in-Some-split_at_byte.ensures.some in
    no_front_file c.args.text.now c.in-Some-split_at_byte.word.now c.in-Some-split_at_byte.after.now c.in_default.ensures.none cut.0 cut.1 c.in_default-file_front.ensures.none

pub returns-clause-some : goal.returns-clause-some
returns-clause-some c =
    let cut = c.in-Some-split_at_byte.ensures.some in
    front_is c.args.text.now c.in-Some-split_at_byte.word.now c.in-Some-split_at_byte.after.now c.in-Some-mode_of.mode _ _ cut.1 c.in-Some-mode_of.ensures.some c.in-Some-file_front.ensures.some
