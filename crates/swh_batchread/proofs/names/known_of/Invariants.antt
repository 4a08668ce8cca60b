use Rattle.std.proofs.Common.{take}
use Rattle.std.specs.List.{AllByRecursion}
use Rattle.swh_object.specs.Object.{IsObject}
use Rattle.swh_batchread.specs.RefSteps.{KnowsObjects, knowing}
use Rattle.swh_batchread.proofs.names.known_of.Given as goal

-- the objects so far are known
abbrev pub invariant-loop-object : goal.invariant-loop-object
invariant-loop-object g l = record {
  known : KnowsObjects (take l.object-index l.objects) (knowing l.known);
  good : AllByRecursion (IsObject g.N.Namer.id_of) (take l.object-index l.objects);
}
