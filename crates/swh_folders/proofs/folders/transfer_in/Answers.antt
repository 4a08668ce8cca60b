use Rattle.std.proofs.Common.{refl}
use Rattle.swh_folders.proofs.Workings.{below-grown, map-grown, tallied-grown}
use Rattle.swh_folders.proofs.folders.transfer_in.Goals as goal

pub returns-in_default-clause-left : goal.returns-in_default-clause-left
returns-in_default-clause-left c = below-grown c.args.folders.now.names.items c.transfer_path.new.names.items c.args.folders.now.nodes.items c.transfer_path.new.nodes.items c.args.root c.requires.root c.transfer_path.ensures.grows

pub returns-in_default-clause-same : goal.returns-in_default-clause-same
returns-in_default-clause-same c = map-grown c.args.folders.now.names.items c.transfer_path.new.names.items c.args.folders.now.nodes.items c.transfer_path.new.nodes.items c.args.root c.requires.root c.transfer_path.ensures.grows

pub returns-in_err-there-clause-tallied : goal.returns-in_err-there-clause-tallied
returns-in_err-there-clause-tallied c = tallied-grown c.args.base c.args.folders.now _ c.requires.tallied c.transfer_path.ensures.grows refl refl

pub returns-in_default-clause-tallied : goal.returns-in_default-clause-tallied
returns-in_default-clause-tallied c = tallied-grown c.args.base c.args.folders.now _ c.requires.tallied c.transfer_path.ensures.grows refl refl

pub settled-requires-clause-tallied : goal.settled-requires-clause-tallied
settled-requires-clause-tallied c = tallied-grown c.args.base c.args.folders.now _ c.requires.tallied c.transfer_path.ensures.grows refl refl

pub returns-in_err-settled-clause-kept : goal.returns-in_err-settled-clause-kept
returns-in_err-settled-clause-kept c = rw c.settled.ensures.names c.transfer_path.ensures.kept

pub returns-clause-kept : goal.returns-clause-kept
returns-clause-kept c = rw c.settled.ensures.names c.transfer_path.ensures.kept
