use Rattle.swh_roundtrip.proofs.TreeForests.{made_again}
use Rattle.swh_roundtrip.proofs.trees.files_make_their_directory.Goals as goal

pub returns : goal.returns
returns c id bodies name tree named is full = made_again id bodies named name tree is full
