use Rattle.std.proofs.Common.{◌-◌, ◌+◌}
use Rattle.swh_dirmade.specs.Sizes.{AreSizes}
use Rattle.swh_dirmade.proofs.sizes.sizes_of.Given as goal

abbrev pub invariant-up : goal.invariant-up
invariant-up l = AreSizes l.spots l.places (l.count + 1 - l.turn) l.sizes.items
