use Rattle.swh_base.specs.Reach.{IsHeldIn, IsChildIn}
use Rattle.swh_base.proofs.Reaches.{within-grows, closed-grows}
use Rattle.swh_base.proofs.laws.growth_keeps_closed.Goals as goal

pub returns : goal.returns
returns c = λ a b root within closed. closed-grows (IsHeldIn a) (IsChildIn a) (IsHeldIn b) (IsChildIn b) (within-grows a b within) root closed
