use Rattle.swh_closure.proofs.Refusals.{missing_refutes}
use Rattle.swh_closure.proofs.laws.missing_names_refute_closure.Goals as goal

pub returns : goal.returns
returns c = missing_refutes
