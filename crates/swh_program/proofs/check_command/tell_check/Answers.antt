use Rattle.swh_model.specs.Step.{replay}
use Rattle.swh_program.proofs.Checked.{counted}
use Rattle.swh_program.proofs.check_command.tell_check.Goals as goal

pub returns-in-Ok-clause-told : goal.returns-in-Ok-clause-told
returns-in-Ok-clause-told g c = counted g.N.Namer.id_of (replay c.args.keeper.now.history) c.in-Ok.report c.in-Ok.ensures.ok c.tell_report.result c.tell_report.ensures.told
