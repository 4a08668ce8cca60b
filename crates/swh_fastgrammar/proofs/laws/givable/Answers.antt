use Rattle.swh_fastgrammar.proofs.Givable.{command_givable}
use Rattle.swh_fastgrammar.proofs.laws.givable.Goals as goal

pub returns : goal.returns
returns c = command_givable
