use Rattle.std.proofs.Common.{◌+◌, arith}
use Rattle.swh_base.specs.Limits.{body_limit}
use Rattle.swh_identify.proofs.Naming.{limit_one}
use Rattle.swh_identify.proofs.identify_command.identify.Goals as goal

pub returns-in-Err-Limit-clause-one_of : goal.returns-in-Err-Limit-clause-one_of
returns-in-Err-Limit-clause-one_of g c = limit_one g.N.Namer.id_of c.args.kind (body_limit + 1) (omega arith) c.tell_limit.result c.tell_limit.ensures
