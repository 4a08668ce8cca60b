use Rattle.std.proofs.Common.{length, subst}
use Rattle.swh_core.specs.Step.{IsMeant}
use Rattle.swh_core.proofs.world.take_step.Goals as goal

pub apply_step-requires-clause-wish : goal.apply_step-requires-clause-wish
apply_step-requires-clause-wish g c = record { id_of = g.N.Namer.id_of; is = (subst (IsMeant g.N.Namer.id_of (length c.args.parts.now.seen)) c.in-Apply.is c.requires.meant).1 }

pub fault_step-requires-clause-wish : goal.fault_step-requires-clause-wish
fault_step-requires-clause-wish g c = record { id_of = g.N.Namer.id_of; is = (subst (IsMeant g.N.Namer.id_of (length c.args.parts.now.seen)) c.in-Fault.is c.requires.meant).1 }
