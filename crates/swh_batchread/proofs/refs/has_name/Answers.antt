use Rattle.std.proofs.Common.{sym, ◌∙◌}
use Rattle.swh_batchread.proofs.RefsHeld.{met}
use Rattle.swh_batchread.proofs.refs.has_name.Goals as goal

pub returns-clause-met : goal.returns-clause-met
returns-clause-met c = λ rs h found. met rs c.args.refs.now c.args.name.now h (sym c.contains_key.ensures ∙ found)
