use Rattle.std.proofs.Common.{◌≡◌, take}
use Rattle.swh_model.proofs.again.visits_again.Given as goal

abbrev pub invariant-loop-visit : goal.invariant-loop-visit
invariant-loop-visit l = l.copies.items ≡ take l.visit-index l.visits
