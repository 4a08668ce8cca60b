use Rattle.std.proofs.Common.{◌≡◌, ◌++◌, length}
use Rattle.std.specs.List.{flat_map, AllByRecursion}
use Rattle.swh_base.specs.Name.{IsId}
use Rattle.swh_base.specs.Revision.{parent_line}
use Rattle.swh_revfmt.proofs.revision.parents_of.Given as goal

abbrev pub invariant-lines : goal.invariant-lines
invariant-lines l = record { ids : AllByRecursion IsId l.parents.items; text : l.bytes ≡ flat_map parent_line l.parents.items ++ l.rest }

abbrev pub decreases-lines : goal.decreases-lines
decreases-lines l = length l.rest
