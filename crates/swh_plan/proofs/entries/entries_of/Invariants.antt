use Rattle.std.proofs.Common.{◌≡◌}
use Rattle.std.specs.List.{AllByRecursion}
use Rattle.swh_model.specs.Step.{HasItsChildrenAndName}
use Rattle.swh_plan.proofs.entries.entries_of.Given as goal

abbrev pub invariant-loop-object : goal.invariant-loop-object
invariant-loop-object g l = record {
  same : l.entries.items ≡ l.yielded;
  good : AllByRecursion (HasItsChildrenAndName g.N.Namer.id_of) l.yielded;
}
