use Rattle.swh_dirload.proofs.OneFolder.{one_meaning, one_fault, never_both}
use Rattle.swh_dirload.proofs.laws.one_folder.Goals as goal

pub returns-clause-snapshot : goal.returns-clause-snapshot
returns-clause-snapshot c = λ id tree text objects others snapshot other h k. (one_meaning id tree text objects others snapshot other h k).0

pub returns-clause-objects : goal.returns-clause-objects
returns-clause-objects c = λ id tree text objects others snapshot other h k. (one_meaning id tree text objects others snapshot other h k).1

pub returns-clause-fault : goal.returns-clause-fault
returns-clause-fault c = one_fault

pub returns-clause-never_both : goal.returns-clause-never_both
returns-clause-never_both c = never_both
