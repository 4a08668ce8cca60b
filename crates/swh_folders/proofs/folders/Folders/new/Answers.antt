use Rattle.swh_folders.proofs.Workings.{good-none}
use Rattle.swh_folders.proofs.folders.Folders.new.Goals as goal

pub returns-clause-good : goal.returns-clause-good
returns-clause-good c = rw (c.new.ensures, c.new-2.ensures.items) good-none
