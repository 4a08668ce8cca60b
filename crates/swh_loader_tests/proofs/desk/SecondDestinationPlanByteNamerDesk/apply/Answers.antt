use Rattle.std.proofs.lemmas.Result.{IfOk-weaker, IfErr-weaker}
use Rattle.swh_base.specs.Namer.{byte_id}
use Rattle.swh_loader_tests.proofs.Applying.{carried_shared, refused_shared}
use Rattle.swh_loader_tests.proofs.desk.SecondDestinationPlanByteNamerDesk.apply.Goals as goal

pub returns-clause-ok : goal.returns-clause-ok
returns-clause-ok c = IfOk-weaker c.carry_out.result _ _ (λ outcome. carried_shared byte_id _ (λ desk. desk.keeper) _ c.args.desk.now (record { keeper = c.carry_out.new.keeper; others = c.add_other.new.others }) c.add_other.new.keeper (record { follows = c.add_other.ensures.follows; made = c.add_other.ensures.made }) outcome) c.carry_out.ensures.ok

pub returns-clause-err : goal.returns-clause-err
returns-clause-err c = IfErr-weaker c.carry_out.result _ _ (λ r. refused_shared byte_id _ (λ desk. desk.keeper) _ c.args.desk.now (record { keeper = c.carry_out.new.keeper; others = c.add_other.new.others }) c.add_other.new.keeper (record { follows = c.add_other.ensures.follows; made = c.add_other.ensures.made }) r) c.carry_out.ensures.err
