use Rattle.std.proofs.Common.{◌≡◌, Some, None, ◌∙◌}
use Rattle.swh_model.specs.Judge.{first_long}
use Rattle.swh_model.proofs.Verdicts.{short_unless}
use Rattle.swh_model.proofs.adding.limit_of_batch.Goals as goal

pub before_last-bytes-requires-clause-small : goal.before_last-bytes-requires-clause-small
before_last-bytes-requires-clause-small c =
    short_unless c.args.entries.now (λ n long. let none : None ≡ first_long c.args.entries.now = c.in_default.ensures in let f : None ≡ Some n = none ∙ long in cc)
