use Rattle.swh_listing.proofs.Modes.{no_project_id}
use Rattle.swh_listing.proofs.row.project_front.Goals as goal

pub returns-in_default-id_of-clause-none : goal.returns-in_default-id_of-clause-none
returns-in_default-id_of-clause-none c =
    let cut = c.in-Some.ensures.some in
    no_project_id c.args.text.now c.in-Some.digits.now c.in-Some.rest.now cut.0 cut.1 c.in_default-id_of.ensures.none
