use Rattle.swh_api.proofs.Cooks.{no_directory}
use Rattle.swh_api.proofs.cooking.cooked_name.Goals as goal

pub returns-in_default-clause-none : goal.returns-in_default-clause-none
returns-in_default-clause-none c = λ name h. c.in_default.ensures.none name h.core

pub returns-in-Directory-clause-none : goal.returns-in-Directory-clause-none
returns-in-Directory-clause-none c = no_directory c.args.text.now c.in-Some.name c.in-Some.ensures.some c.in-Directory.is

pub returns-in_default-kind-clause-some : goal.returns-in_default-kind-clause-some
returns-in_default-kind-clause-some c = record { core = c.in-Some.ensures.some; other = c.in_default-kind.not-Directory }
