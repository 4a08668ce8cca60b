use Rattle.swh_listing.proofs.Faults.{one_fault}
use Rattle.swh_listing.proofs.laws.one_listing_fault.Goals as goal

pub returns : goal.returns
returns c = one_fault
