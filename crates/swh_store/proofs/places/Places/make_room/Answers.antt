use Rattle.std.proofs.Common.{subst}
use Rattle.swh_store.specs.Places.{IsPlaced}
use Rattle.swh_store.proofs.Fronts.{fresh_all}
use Rattle.swh_store.proofs.places.Places.make_room.Goals as goal

pub returns-in_ok-places : goal.returns-in_ok-places
returns-in_ok-places c =
    subst (IsPlaced c.in_ok-places.places) (fresh_all c.args.entries.now c.in_ok-places._fresh c.requires.new c.in_ok-places.ensures.fresh) c.in_ok-places.ensures.placed
