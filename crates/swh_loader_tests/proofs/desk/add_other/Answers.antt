use Rattle.swh_base.specs.Namer.{byte_id}
use Rattle.swh_loader_tests.proofs.Applying.{others_one, others_refused}
use Rattle.swh_loader_tests.proofs.desk.add_other.Goals as goal

pub returns-in-Ok : goal.returns-in-Ok
returns-in-Ok c = others_one byte_id _ _ c.args.keeper.now c.carry_out.new.keeper c.in-Ok.field-0 c.in-Ok.ensures.ok

pub returns-in-Err : goal.returns-in-Err
returns-in-Err c = others_refused byte_id _ _ c.args.keeper.now c.carry_out.new.keeper c.in-Err.field-0 c.in-Err.ensures.err
