use Rattle.swh_program.proofs.Does.{does, comes_still}
use Rattle.swh_program.proofs.top.run.Goals as goal

pub returns-clause-does : goal.returns-clause-does
returns-clause-does g c wanted is =
    does wanted _ c.obey-answer.result c.tell.result (rw c.obey-answer.ensures.same_sink at c.tell.ensures.told)
    (comes_still wanted _ _ _ c.obey-answer.result (c.obey-answer.ensures.comes wanted is))
