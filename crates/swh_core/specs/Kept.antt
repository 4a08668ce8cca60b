-- What every world keeps: fronts of one history, and files that stand for it, or with the event in doubt or without it.
use Rattle.std.specs.Prelude.{◌≡◌, ℕ, ◌≤◌, Option, Some, None, List, ◌++◌, length, take}
use Rattle.std.specs.List.{AllByRecursion}
use Rattle.swh_base.specs.declared.kind.Kind.{Kind}
use Rattle.swh_outside.specs.Files.{Images, EachImages}
use Rattle.swh_model.specs.declared.event.Event.{Event}
use Rattle.swh_model.specs.Step.{May, IsHistory, replay}
use Rattle.swh_format.specs.Stands.{StandsFor}
use Rattle.swh_segment.specs.Settled.{AreAtRest}
use Rattle.swh_segment.specs.Standing.{WithOrWithout}
use Rattle.swh_core.specs.declared.parts.Parts.{Parts as World}
use Rattle.swh_core.specs.World.{files_on}

-- The first list is a front of the second.
pub record IsFront (front whole : List Event) : Type 0 where
  pub rest : List Event
  pub is : whole ≡ front ++ rest

-- The images stand for the history; with an event in doubt they may stand for the history with it instead.
abbrev pub MayStand : List Event → Option Event → Images → Type 0
MayStand h None images = StandsFor (images 0) (images 1) h
MayStand h (Some e) images = WithOrWithout h e images

-- (That the replay of the history is sound follows from `history`, by a law of the model.)
pub record IsWorld (id_of : Kind → List ℕ → List ℕ) (w : World) : Type 0 where
  pub history : IsHistory id_of w.history
  pub shown : w.shown ≤ length w.history
  pub kept : IsFront w.kept (take w.shown w.history)
  pub seen : AllByRecursion (λ front. IsFront front w.kept) w.seen
  pub images : EachImages (files_on w.disks) (MayStand w.history w.doubt)
  pub rests : w.doubt ≡ None → AreAtRest (files_on w.disks)
  pub doubt : (e : Event) → w.doubt ≡ Some e → May id_of (replay w.history) e

-- What one step, or many, may make of a world: no event leaves the history, no list that was seen is forgotten, and the
-- actors are as many as before.
pub record IsLater (old new : World) : Type 0 where
  pub history : IsFront old.history new.history
  pub kept : IsFront old.kept new.kept
  pub actors : length new.seen ≡ length old.seen
