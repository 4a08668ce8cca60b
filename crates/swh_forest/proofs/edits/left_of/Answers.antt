use Rattle.swh_forest.proofs.Keeping.{among-left}
use Rattle.swh_entries.specs.Keys.{texts}
use Rattle.swh_forest.specs.Arena.{parts_of}
use Rattle.swh_forest.proofs.edits.left_of.Goals as goal

pub returns-in-Copy-clause-kept : goal.returns-in-Copy-clause-kept
returns-in-Copy-clause-kept c = among-left (texts c.args.names.now.items) (parts_of c.args.source.now)
