-- What a keeper keeps whatever is asked of it.
use Rattle.std.specs.Prelude.{◌≡◌, List, ◌++◌}
use Rattle.swh_model.specs.declared.event.Event.{Event}
use Rattle.swh_keeper.specs.Kept.{Kept}

-- Events were added behind those that were there, of which none was lost.
pub record HasGrown {D : Type 0} (old new : Kept D) : Type 0 where
  pub more : List Event
  pub behind : new.history ≡ old.history ++ more
