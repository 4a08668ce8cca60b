use Rattle.swh_closure.proofs.Refusals.{gap_refutes}
use Rattle.swh_closure.proofs.laws.gaps_refute_certificates.Goals as goal

pub returns : goal.returns
returns c = gap_refutes
