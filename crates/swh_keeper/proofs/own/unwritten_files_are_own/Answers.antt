use Rattle.swh_keeper.proofs.OwnLemmas.{unwritten_own}
use Rattle.swh_keeper.proofs.own.unwritten_files_are_own.Goals as goal

pub returns : goal.returns
returns c = unwritten_own
