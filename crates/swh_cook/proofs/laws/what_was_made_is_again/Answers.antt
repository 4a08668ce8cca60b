use Rattle.swh_cook.proofs.Again.{made_again}
use Rattle.swh_cook.proofs.laws.what_was_made_is_again.Goals as goal

pub returns : goal.returns
returns c = made_again
