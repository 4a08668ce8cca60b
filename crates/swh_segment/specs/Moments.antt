-- What a crash leaves at the device calls of events that are added one after another.
use Rattle.std.specs.Prelude.{◌≡◌, ◌≤◌, ◌+◌, ◌-◌, ℕ, nat_le, if◌then◌else◌, List, [], ◌∷◌, ◌++◌, length, take}
use Rattle.swh_base.specs.declared.kind.Kind.{Kind}
use Rattle.swh_outside.specs.Files.{Files, Images, AreImages, EachImages, EachFilesMoment, FilesBreaks, files_done}
use Rattle.swh_model.specs.declared.event.Event.{Event}
use Rattle.swh_model.specs.Step.{May, replay}
use Rattle.swh_format.specs.EventRecord.{AreCodable}
use Rattle.swh_format.specs.Stands.{StandsFor}
use Rattle.swh_segment.specs.Calls.{calls_for, all_calls}
use Rattle.swh_segment.specs.Making.{barriers}
use Rattle.swh_segment.specs.Settled.{AreAtRest}
use Rattle.swh_segment.specs.Standing.{WithOrWithout}

-- The calls of an event for which `IsNext` holds, which may happen next and fits its fields, were made up to one that
-- failed.
pub record BreaksAtEvent (id : Kind → List ℕ → List ℕ) (IsNext : Event → Type 0) (h : List Event) (old new : Files) : Type 0 where
  pub event : Event
  pub next : IsNext event
  pub may : May id (replay h) event
  pub codable : AreCodable 0 (h ++ event ∷ [])
  pub breaks : FilesBreaks (calls_for h event) old new

-- how many of these events, added after the history, have all their device calls among the first n
abbrev pub acknowledged : List Event → List Event → ℕ → ℕ
acknowledged h [] n = 0
acknowledged h (e ∷ more) n =
    if nat_le (length (calls_for h e)) n then 1 + acknowledged (h ++ e ∷ []) more (n - length (calls_for h e)) else 0

-- The images stand for the history and a front of the events: each that was acknowledged among the first n calls is
-- there, and at most one more.
pub record FrontStands (h more : List Event) (n : ℕ) (images : Images) : Type 0 where
  pub front : List Event
  pub rest : List Event
  pub cut : more ≡ front ++ rest
  pub none_lost : acknowledged h more n ≤ length front
  pub one_more : length front ≤ acknowledged h more n + 1
  pub stands : StandsFor (images 0) (images 1) (h ++ front)

-- After each number of the device calls of these events, all images that a crash may leave stand for such a front.
pub record EachFrontMoment (h more : List Event) (files : Files) : Type 0 where
  pub has : (n : ℕ) → EachImages (files_done (take n (all_calls h more)) files) (FrontStands h more n)

-- All device calls of these events were made. A crash at any of them leaves what was acknowledged by then, and one after
-- them all of the events.
pub record IsSafelyMade (h more : List Event) (old new : Files) : Type 0 where
  pub made : new ≡ files_done (all_calls h more) old
  pub moments : EachFrontMoment h more old
  pub left : EachImages new (λ images. StandsFor (images 0) (images 1) (h ++ more))

-- All device calls of these events were made, and then those of one event like these up to one that failed. A crash at
-- any of them leaves what was acknowledged by then, and one after them all of the events, with the last or without it.
pub record IsSafelyBroken (id : Kind → List ℕ → List ℕ) (IsNext : Event → Type 0) (h more : List Event) (old new : Files) : Type 0 where
  pub breaks : BreaksAtEvent id IsNext (h ++ more) (files_done (all_calls h more) old) new
  pub moments : EachFrontMoment h (more ++ breaks.event ∷ []) old
  pub left : EachImages new (WithOrWithout (h ++ more) breaks.event)

-- Until a barrier was made on each file a crash leaves no other bytes than before; where nothing was written since a
-- barrier before, it leaves the history.
pub record IsSafeOpening (h : List Event) (old : Files) : Type 0 where
  pub no_others : EachFilesMoment barriers old (AreImages old)
  pub rested : AreAtRest old → EachFilesMoment barriers old (λ images. StandsFor (images 0) (images 1) h)
