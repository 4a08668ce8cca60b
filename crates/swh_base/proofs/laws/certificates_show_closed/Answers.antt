use Rattle.swh_base.specs.Reach.{IsHeldIn, IsChildIn}
use Rattle.swh_base.proofs.Reaches.{certified-closed, listed-closed}
use Rattle.swh_base.proofs.laws.certificates_show_closed.Goals as goal

pub returns-clause-root : goal.returns-clause-root
returns-clause-root c = λ graph closed names root are by. certified-closed (IsHeldIn graph) (IsChildIn graph) closed names root are by

pub returns-clause-listed : goal.returns-clause-listed
returns-clause-listed c = λ graph closed names root are by. listed-closed (IsHeldIn graph) (IsChildIn graph) closed names root are by
