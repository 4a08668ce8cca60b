use Rattle.std.proofs.Common.{◌≡◌, ℕ, length}
use Rattle.std.specs.Prelude.{string_bytes}
use Rattle.swh_dirload.specs.Found.{path_at, paths_of, Leads}
use Rattle.swh_dirload.proofs.path.path_along.Given as goal

abbrev pub invariant-down : goal.invariant-down
invariant-down l = (here : ℕ) × (string_bytes l.path ≡ path_at (paths_of l.found) here) × Leads l.found here l.way.items l.fn.number

abbrev pub decreases-down : goal.decreases-down
decreases-down l = length l.way.items
