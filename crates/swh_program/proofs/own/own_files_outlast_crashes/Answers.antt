use Rattle.swh_program.proofs.Owned.{own_after_crash}
use Rattle.swh_program.proofs.own.own_files_outlast_crashes.Goals as goal

pub returns : goal.returns
returns c id_of files images left own are after = own_after_crash id_of images left (own.each.has images are) after
