use Rattle.std.proofs.Common.{◌∙◌}
use Rattle.swh_swhid.proofs.Cores.{only_name}
use Rattle.swh_swhid.proofs.identifier.parse_core.Goals as goal

pub returns-clause-only : goal.returns-clause-only
returns-clause-only c = λ name h e. c.ok.ensures.value ∙ only_name c.args.text.now c.read_core.result c.read_core.ensures.ok c.read_core.ensures.err name h e
