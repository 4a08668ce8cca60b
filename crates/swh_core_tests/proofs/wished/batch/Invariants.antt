use Rattle.std.specs.List.{AllByRecursion}
use Rattle.swh_model.specs.Step.{HasItsChildrenAndName}
use Rattle.swh_core_tests.proofs.wished.batch.Given as goal

abbrev pub invariant-loop-body : goal.invariant-loop-body
invariant-loop-body g l = AllByRecursion (HasItsChildrenAndName g.N.Namer.id_of) l.entries.items
