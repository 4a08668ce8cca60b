use Rattle.std.proofs.Common.{List}
use Rattle.swh_model.specs.declared.event.Event.{Event}
use Rattle.swh_model.specs.Archive.{empty_archive}
use Rattle.swh_model.proofs.Sounds.{all-sound, empty-sound}
use Rattle.swh_core.specs.Kept.{IsFront}
use Rattle.swh_core.proofs.Worlds.{all_map, front_taken, front_then, kept_in}
use Rattle.swh_core.proofs.laws.worlds_are_sound.Goals as goal

pub returns : goal.returns
returns c = record {
  sound = λ id_of w k. all-sound id_of empty_archive w.history (empty-sound id_of) k.history;
  shown = λ w. front_taken w.shown w.history;
  kept = λ id_of w k. kept_in id_of w k;
  seen = λ id_of w k. all_map (λ (f : List Event). IsFront f w.kept) (λ (f : List Event). IsFront f w.history) w.seen (λ f at. front_then f w.kept w.history at (kept_in id_of w k)) k.seen;
  images = λ id_of w k. k.images;
}
