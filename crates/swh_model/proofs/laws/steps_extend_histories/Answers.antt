use Rattle.std.proofs.Common.{sym, ◌∙◌}
use Rattle.swh_model.specs.Archive.{empty_archive}
use Rattle.swh_model.proofs.PlainSteps.{may-push, after-push}
use Rattle.swh_model.proofs.laws.steps_extend_histories.Goals as goal

pub returns : goal.returns
returns c id_of h e b is_history is_step =
    (may-push id_of empty_archive h e is_history is_step.0, is_step.1 ∙ sym (after-push empty_archive h e))
