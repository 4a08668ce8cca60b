use Rattle.std.proofs.Common.{take}
use Rattle.std.specs.List.{AllByRecursion}
use Rattle.swh_object.specs.Object.{IsObject}
use Rattle.swh_keeperload.proofs.fitting.objects_are_good.Given as goal

abbrev pub invariant-loop-object : goal.invariant-loop-object
invariant-loop-object g l = AllByRecursion (IsObject g.N.Namer.id_of) (take l.object-index l.objects)
