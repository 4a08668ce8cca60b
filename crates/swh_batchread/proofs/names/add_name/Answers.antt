use Rattle.swh_batchread.proofs.NamesKnown.{known_more}
use Rattle.swh_batchread.proofs.names.add_name.Goals as goal

pub returns : goal.returns
returns c = λ before k. known_more before c.args.name c.args.names.now _ k c.in_ok-lead.ensures c.in_ok-add.ensures.ok
