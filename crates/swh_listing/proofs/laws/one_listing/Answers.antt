use Rattle.swh_listing.proofs.Faults.{one_listing, no_fault}
use Rattle.swh_listing.proofs.laws.one_listing.Goals as goal

pub returns-clause-one : goal.returns-clause-one
returns-clause-one c = one_listing

pub returns-clause-no_fault : goal.returns-clause-no_fault
returns-clause-no_fault c = no_fault
