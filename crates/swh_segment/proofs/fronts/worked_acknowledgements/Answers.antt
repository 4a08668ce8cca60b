use Rattle.std.proofs.Common.{refl}
use Rattle.swh_format.specs.StoredObject.{coded_entry}
use Rattle.swh_segment.proofs.fronts.worked_acknowledgements.Goals as goal

pub returns-clause-three : goal.returns-clause-three
returns-clause-three c id = refl

pub returns-clause-four : goal.returns-clause-four
unfolding coded_entry
returns-clause-four c id = refl

pub returns-clause-nine : goal.returns-clause-nine
unfolding coded_entry
returns-clause-nine c id = refl

pub returns-clause-ten : goal.returns-clause-ten
unfolding coded_entry
returns-clause-ten c id = refl
