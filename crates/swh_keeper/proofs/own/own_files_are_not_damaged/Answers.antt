use Rattle.swh_keeper.proofs.OwnLemmas.{not_damaged}
use Rattle.swh_keeper.proofs.own.own_files_are_not_damaged.Goals as goal

pub returns : goal.returns
returns c id_of files images own are = not_damaged id_of images (own.each.has images are)
