use Rattle.std.proofs.Common.{sym, ◌∙◌}
use Rattle.swh_model.specs.Meaning.{content}
use Rattle.swh_fastmeaning.proofs.Overs.{still_over}
use Rattle.swh_fastmeaning.proofs.contents.add_content.Goals as goal

pub returns-then-is_some-clause-holds : goal.returns-then-is_some-clause-holds
returns-then-is_some-clause-holds g c = λ ms h.
    still_over ms (content c.args.bytes.now) c.args.contents.now.objects.items c.args.contents.now.over (sym c.is_some.ensures ∙ c.if-is_some.true) h
