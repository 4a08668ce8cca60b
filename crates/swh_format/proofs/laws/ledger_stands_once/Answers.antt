use Rattle.swh_format.proofs.One.{stands_once}
use Rattle.swh_format.proofs.laws.ledger_stands_once.Goals as goal

pub returns : goal.returns
returns c = stands_once
