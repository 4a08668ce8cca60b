use Rattle.swh_folders.proofs.opened.transfer_from.Goals as goal

pub returns-in-In-clause-kept : goal.returns-in-In-clause-kept
returns-in-In-clause-kept c = rw c.in-In.is c.transfer_open.ensures.kept
