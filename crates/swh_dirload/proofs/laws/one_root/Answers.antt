use Rattle.swh_dirload.proofs.OneFolder as folder
use Rattle.swh_dirload.proofs.laws.one_root.Goals as goal

pub returns-clause-one : goal.returns-clause-one
returns-clause-one c = folder.one_root

pub returns-clause-head : goal.returns-clause-head
returns-clause-head c = folder.root_head

pub returns-clause-unbroken : goal.returns-clause-unbroken
returns-clause-unbroken c = folder.root_unbroken
