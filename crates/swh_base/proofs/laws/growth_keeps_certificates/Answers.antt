use Rattle.swh_base.specs.Reach.{IsHeldIn, IsChildIn}
use Rattle.swh_base.proofs.Reaches.{within-grows, certifies-grows}
use Rattle.swh_base.proofs.laws.growth_keeps_certificates.Goals as goal

pub returns : goal.returns
returns c = λ a b closed more names root within among by. certifies-grows (IsHeldIn a) (IsChildIn a) (IsHeldIn b) (IsChildIn b) (within-grows a b within) closed more names root among by
