use Rattle.swh_dirmade.specs.Sizes.{AreShortBelow}
use Rattle.swh_dirmade.proofs.sizes.first_long.Given as goal

abbrev pub invariant-folders : goal.invariant-folders
invariant-folders l = AreShortBelow l.spots l.places l.number
