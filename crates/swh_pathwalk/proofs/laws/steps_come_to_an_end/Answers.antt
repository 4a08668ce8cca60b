use Rattle.swh_pathwalk.proofs.Weights.{lead_at_first, lighter}
use Rattle.swh_pathwalk.proofs.laws.steps_come_to_an_end.Goals as goal

pub returns-clause-first : goal.returns-clause-first
returns-clause-first c bodies children_of order id new graph preceded begins there = lead_at_first bodies children_of graph order preceded id new begins there

pub returns-clause-lighter : goal.returns-clause-lighter
returns-clause-lighter c bodies children_of order old new entry graph preceded lead step = (lighter bodies children_of graph order preceded old new entry lead step).0

pub returns-clause-led : goal.returns-clause-led
returns-clause-led c bodies children_of order old new entry graph preceded lead step = (lighter bodies children_of graph order preceded old new entry lead step).1
