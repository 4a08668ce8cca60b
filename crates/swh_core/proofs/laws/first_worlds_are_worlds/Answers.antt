use Rattle.swh_core.proofs.Worlds.{first_kept}
use Rattle.swh_core.proofs.laws.first_worlds_are_worlds.Goals as goal

pub returns : goal.returns
returns c id_of actors = first_kept id_of actors
