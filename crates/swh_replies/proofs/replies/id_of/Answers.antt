use Rattle.swh_replies.proofs.IdTexts.{some_id, none_id}
use Rattle.swh_replies.proofs.replies.id_of.Goals as goal

pub returns-clause-some : goal.returns-clause-some
returns-clause-some c = some_id c.args.kind c.args.text.now c.from_hex.result c.from_hex.ensures.some c.from_hex.ensures.found

pub returns-clause-none : goal.returns-clause-none
returns-clause-none c = none_id c.args.text.now c.from_hex.result c.from_hex.ensures.found
