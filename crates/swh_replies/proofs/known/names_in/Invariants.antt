use Rattle.std.proofs.Common.{◌≡◌, ◌++◌, ◌-◌, map, length}
use Rattle.std.specs.List.{AllByRecursion}
use Rattle.swh_base.specs.Name.{IsName}
use Rattle.swh_replies.specs.Known.{name_token}
use Rattle.swh_replies.proofs.known.names_in.Given as goal

abbrev pub invariant-listed : goal.invariant-listed
invariant-listed l = record { so_far : l.fn.reader ≡ map name_token l.names.items ++ l.reader; good : AllByRecursion IsName l.names.items }

abbrev pub decreases-listed : goal.decreases-listed
decreases-listed l = 1001 - length l.names.items
