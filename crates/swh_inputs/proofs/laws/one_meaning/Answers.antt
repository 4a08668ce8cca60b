use Rattle.swh_inputs.proofs.OneInput.{one_making, unbroken}
use Rattle.swh_inputs.proofs.laws.one_meaning.Goals as goal

pub returns-clause-same : goal.returns-clause-same
returns-clause-same c = one_making

pub returns-clause-never_both : goal.returns-clause-never_both
returns-clause-never_both c = unbroken
