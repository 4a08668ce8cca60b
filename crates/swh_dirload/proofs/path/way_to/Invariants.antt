use Rattle.std.proofs.Common.{◌≤◌, ◌-◌, length}
use Rattle.swh_dirload.specs.Found.{Leads}
use Rattle.swh_dirload.proofs.path.way_to.Given as goal

abbrev pub invariant-up : goal.invariant-up
invariant-up l = (l.above ≤ length l.found - 1) × Leads l.found l.above l.way.items l.fn.number

abbrev pub decreases-up : goal.decreases-up
decreases-up l = l.above
