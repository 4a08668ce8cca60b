use Rattle.std.specs.List.{AllByRecursion}
use Rattle.swh_core.specs.Step.{IsMeant}
use Rattle.swh_core_tests.proofs.scripts.steps_of.Given as goal

abbrev pub invariant-loop-row : goal.invariant-loop-row
invariant-loop-row g l = AllByRecursion (IsMeant g.N.Namer.id_of 3) l.steps.items
