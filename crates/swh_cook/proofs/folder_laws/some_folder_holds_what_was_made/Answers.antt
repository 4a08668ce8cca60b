use Rattle.swh_cook.proofs.HoldingTree.{tree_there}
use Rattle.swh_cook.proofs.folder_laws.some_folder_holds_what_was_made.Goals as goal

pub returns : goal.returns
returns c = tree_there
