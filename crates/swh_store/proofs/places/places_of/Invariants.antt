use Rattle.std.proofs.Common.{take}
use Rattle.swh_store.specs.Places.{IsPlaced}
use Rattle.swh_store.proofs.places.places_of.Given as goal

abbrev pub invariant-loop-place : goal.invariant-loop-place
invariant-loop-place l = IsPlaced l.places (take l.place l.entries)
