use Rattle.std.proofs.Common.{refl}
use Rattle.swh_folders.proofs.Workings.{stays-same, stays-grown, tallied-grown}
use Rattle.swh_forest.proofs.Keeping.{among-left}
use Rattle.swh_entries.specs.Keys.{texts}
use Rattle.swh_folders.specs.Opened.{open_path}
use Rattle.swh_folders.proofs.opened.root_from.Goals as goal

pub returns-in-At-clause-stays : goal.returns-in-At-clause-stays
returns-in-At-clause-stays c = λ base t. stays-same base c.args.folders.now t c.requires.good

pub returns-in-In-clause-stays : goal.returns-in-In-clause-stays
returns-in-In-clause-stays c = λ base t. stays-grown base c.args.folders.now _ t c.sealed.ensures.good c.sealed.ensures.grows

pub returns-in-In-clause-tallied : goal.returns-in-In-clause-tallied
returns-in-In-clause-tallied c = λ base t. tallied-grown base c.args.folders.now _ t c.sealed.ensures.grows refl refl

pub returns-in-At-clause-kept : goal.returns-in-At-clause-kept
returns-in-At-clause-kept c = among-left (texts c.args.folders.now.names.items) (open_path c.args.start)

pub returns-in-In-clause-kept : goal.returns-in-In-clause-kept
returns-in-In-clause-kept c = rw c.in-In.is c.sealed.ensures.kept
