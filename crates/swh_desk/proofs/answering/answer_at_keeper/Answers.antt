use Rattle.swh_model.specs.Step.{replay}
use Rattle.swh_desk.proofs.Statuses.{answer_has}
use Rattle.swh_desk.proofs.answering.answer_at_keeper.Goals as goal

pub returns-in-Ok-read_reply-clause-has_body : goal.returns-in-Ok-read_reply-clause-has_body
returns-in-Ok-read_reply-clause-has_body g c = answer_has (replay c.args.keeper.now.history) c.args.request.now c.in-Ok-read_reply.reply c.in-Ok-read_reply.ensures
