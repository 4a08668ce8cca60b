use Rattle.std.proofs.Common.{◌≡◌, take, map}
use Rattle.swh_model.specs.State.{with_visits}
use Rattle.swh_model.proofs.origins.origins_again.Given as goal

abbrev pub invariant-loop-visited : goal.invariant-loop-visited
invariant-loop-visited l = map with_visits l.copies.items ≡ map with_visits (take l.visited-index l.origins)
