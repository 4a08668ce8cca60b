use Rattle.std.proofs.lemmas.Bool.Decides.{Decides-eqb}
use Rattle.std.proofs.lemmas.Slice.Eq.{strip_suffix_is}
use Rattle.swh_replies.proofs.Shapes.{some_before, none_before}
use Rattle.swh_replies.proofs.asked.before.Goals as goal

pub returns-clause-some : goal.returns-clause-some
returns-clause-some c = some_before c.args.bytes.now c.args.back.now c.strip_suffix.result (strip_suffix_is Decides-eqb c.args.bytes.now c.args.back.now c.strip_suffix.result c.strip_suffix.ensures.cases)

pub returns-clause-none : goal.returns-clause-none
returns-clause-none c = none_before c.args.bytes.now c.args.back.now c.strip_suffix.result (strip_suffix_is Decides-eqb c.args.bytes.now c.args.back.now c.strip_suffix.result c.strip_suffix.ensures.cases)
