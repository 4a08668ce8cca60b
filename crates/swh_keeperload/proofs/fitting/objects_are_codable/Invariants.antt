use Rattle.std.proofs.Common.{take}
use Rattle.std.specs.List.{AllByRecursion}
use Rattle.swh_format.specs.StoredObject.{IsCodableEntry}
use Rattle.swh_keeperload.proofs.fitting.objects_are_codable.Given as goal

abbrev pub invariant-loop-object : goal.invariant-loop-object
invariant-loop-object g l = AllByRecursion IsCodableEntry (take l.object-index l.objects)
