use Rattle.std.proofs.Common.{List, take}
use Rattle.swh_model.specs.declared.event.Event.{Event}
use Rattle.swh_core.specs.Kept.{IsFront}
use Rattle.swh_core.proofs.Worlds.{all_get, front_then}
use Rattle.swh_core.proofs.laws.looks_go_on.Goals as goal

pub returns : goal.returns
returns c id_of w w' actor t front k step is = front_then front w.kept (take w.shown w.history) (all_get (λ (f : List Event). IsFront f w.kept) w.seen actor front k.seen is) k.kept
