use Rattle.std.proofs.Common.{refl}
use Rattle.swh_folders.proofs.Workings.{tallied-grown}
use Rattle.swh_folders.proofs.opened.closed.Goals as goal

pub returns-in_err-there-clause-tallied : goal.returns-in_err-there-clause-tallied
returns-in_err-there-clause-tallied c = tallied-grown c.args.base c.args.folders.now _ c.requires.tallied c.sealed.ensures.grows refl refl

pub settled-requires-clause-tallied : goal.settled-requires-clause-tallied
settled-requires-clause-tallied c = tallied-grown c.args.base c.args.folders.now _ c.requires.tallied c.sealed.ensures.grows refl refl

pub returns-clause-kept : goal.returns-clause-kept
returns-clause-kept c = rw c.settled.ensures.names c.sealed.ensures.kept
