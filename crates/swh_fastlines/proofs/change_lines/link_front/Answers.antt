use Rattle.swh_fastlines.proofs.SetFronts.{no_link_space, no_link_id}
use Rattle.swh_fastlines.proofs.change_lines.link_front.Goals as goal

pub returns-in_default-clause-none : goal.returns-in_default-clause-none
returns-in_default-clause-none c = no_link_space c.args.text.now c.in_default.ensures.none

pub returns-in_default-id_of-clause-none : goal.returns-in_default-id_of-clause-none
returns-in_default-id_of-clause-none c =
    let cut = c.in-Some.ensures.some in
    no_link_id c.args.text.now c.in-Some.digits.now c.in-Some.rest.now cut.0 cut.1 c.in_default-id_of.ensures.none
