use Rattle.swh_replies.specs.Shape.{Load}
use Rattle.swh_api.proofs.Loads.{no_load}
use Rattle.swh_api.proofs.routing.load_text.Goals as goal

pub returns-in_default-asked-clause-none : goal.returns-in_default-asked-clause-none
returns-in_default-asked-clause-none c = no_load c.args.path.now c.in-Some.asked c.in-Some.ensures.some c.in_default-asked.not-Load

pub returns-in_default-clause-none : goal.returns-in_default-clause-none
returns-in_default-clause-none c = λ text h. c.in_default.ensures.none (Load text) h
