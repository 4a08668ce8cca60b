use Rattle.swh_program.proofs.Owned.{own_after_crash}
use Rattle.swh_program.proofs.own.usable_images_are_own.Goals as goal

pub returns : goal.returns
returns c = own_after_crash
