use Rattle.swh_inputs.proofs.Streamings.{given_among, meant_given}
use Rattle.swh_inputs.proofs.laws.given_is_meant.Goals as goal

pub returns-clause-among : goal.returns-clause-among
returns-clause-among c = given_among

pub returns-clause-all : goal.returns-clause-all
returns-clause-all c = meant_given
