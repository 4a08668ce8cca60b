use Rattle.std.proofs.Common.{take}
use Rattle.std.specs.List.{AllByRecursion}
use Rattle.swh_format.specs.StoredObject.{IsCodableEntry}
use Rattle.swh_format.proofs.stored_object.entries_are_codable.Given as goal

abbrev pub invariant-loop-entry : goal.invariant-loop-entry
invariant-loop-entry l = AllByRecursion IsCodableEntry (take l.entry-index l.entries)
