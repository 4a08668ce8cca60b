use Rattle.swh_cook.proofs.Ends.{carried_held, uncarried_held, carried_or, one_uncarried}
use Rattle.swh_cook.proofs.laws.one_end.Goals as goal

pub returns-clause-held : goal.returns-clause-held
returns-clause-held c = carried_held

pub returns-clause-reached : goal.returns-clause-reached
returns-clause-reached c = uncarried_held

pub returns-clause-carried : goal.returns-clause-carried
returns-clause-carried c = carried_or

pub returns-clause-first : goal.returns-clause-first
returns-clause-first c = one_uncarried
