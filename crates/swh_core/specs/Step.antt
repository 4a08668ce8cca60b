-- One step of the world, a case an action: what is told of it, and the world afterwards. And lists of steps.
use Rattle.std.specs.Prelude.{◌≡◌, ◌≢◌, ◌⊎◌, ℕ, ◌+◌, ◌<◌, Option, Some, None, Result, Ok, Err, List, ◌∷◌, [], length, take}
use Rattle.swh_base.specs.declared.kind.Kind.{Kind}
use Rattle.swh_outside.specs.Disk.{IsImage}
use Rattle.swh_model.specs.declared.event.Event.{Event}
use Rattle.swh_model.specs.declared.event.Wish.{Wish}
use Rattle.swh_model.specs.declared.event.Outcome.{Outcome}
use Rattle.swh_model.specs.declared.event.No.{No as Cause}
use Rattle.swh_model.specs.Limits.{store_length}
use Rattle.swh_model.specs.Step.{IsHistory}
use Rattle.swh_model.specs.Judge.{IsVerdict, IsWish}
use Rattle.swh_format.specs.EventRecord.{IsCodable}
use Rattle.swh_format.specs.Stands.{StandsFor}
use Rattle.swh_segment.specs.Calls.{calls_for}
use Rattle.swh_core.specs.declared.disk.Disks.{Disks}
use Rattle.swh_core.specs.declared.parts.Parts.{Parts as World}
use Rattle.swh_core.specs.declared.step.Held.{Held}
use Rattle.swh_core.specs.declared.step.Held.TheVariants as held
use Rattle.swh_core.specs.declared.step.Step.{Step}
use Rattle.swh_core.specs.declared.step.Step.TheVariants.{Apply, Look, Fault, Crash}
use Rattle.swh_core.specs.declared.step.Told.{Told}
use Rattle.swh_core.specs.declared.step.Told.TheVariants as told
use Rattle.swh_core.specs.declared.step.StepFault.{StepFault}
use Rattle.swh_core.specs.declared.step.StepFault.TheVariants.{NotImage, Memory}
use Rattle.swh_core.specs.World.{file_of, called, sees, all_shown, sees_all, joined, in_doubt, reopened}

-- Nothing is in doubt, and no older showing is refused: all that waited is shown, and the wish is judged.
abbrev pub IsTaken : World → Held → Type 0
IsTaken w h = (w.doubt ≡ None) × (h ≡ held.Older → w.shown ≡ length w.history)

-- The verdict on the actor's wish lets this event happen, and all parts of it fit their fields.
pub record Lets (h : List Event) (actor : ℕ) (wish : Wish) (event : Event) (outcome : Outcome) : Type 0 where
  pub verdict : IsVerdict h actor wish (Ok (event, outcome))
  pub fits : IsCodable (store_length h) event

-- An actor's wish, and which showing is refused: of no event, of one that waits from before, or of the wish's own.
abbrev pub Applies : ℕ → Wish → Held → World → Told → World → Type 0
Applies actor wish h w told.Wounded w' = (w.doubt ≢ None) × (w' ≡ w)
Applies actor wish h w told.Untaken w' = (w.doubt ≡ None) × (h ≡ held.Older) × (w.shown < length w.history) × (w' ≡ w)
Applies actor wish h w (told.No cause) w' = IsTaken w h × IsVerdict w.history actor wish (Err cause) × (w' ≡ sees_all actor w)
Applies actor wish h w (told.Done outcome) w' =
    IsTaken w h × (h ≢ held.Newest) × (event : Event) × Lets w.history actor wish event outcome
    × (w' ≡ sees_all actor (joined event w))
Applies actor wish h w (told.Waits number) w' =
    IsTaken w h × (h ≡ held.Newest) × (event : Event) × (outcome : Outcome) × Lets w.history actor wish event outcome
    × (number ≡ length w.history + 1) × (w' ≡ joined event (all_shown w))
Applies actor wish h w _ w' = ⊥

-- An actor's wish, of whose event this device call fails.
abbrev pub Faults : ℕ → Wish → ℕ → World → Told → World → Type 0
Faults actor wish call w told.Wounded w' = (w.doubt ≢ None) × (w' ≡ w)
Faults actor wish call w (told.No cause) w' = (w.doubt ≡ None) × IsVerdict w.history actor wish (Err cause) × (w' ≡ all_shown w)
Faults actor wish call w (told.Doubt number) w' =
    (w.doubt ≡ None) × (event : Event) × (outcome : Outcome) × Lets w.history actor wish event outcome
    × (number ≡ length w.history + 1) × (w' ≡ in_doubt event call (all_shown w))
Faults actor wish call w _ w' = ⊥

-- The files at the moment of a crash, and the event that they may have besides the history: where so many calls of a
-- wish's event were made, that one; where one is in doubt, that one, and no other is in flight.
abbrev pub IsCaught : Option Event → Option (ℕ × Wish × ℕ) → World → Disks → Option Event → Type 0
IsCaught (Some e) flight w disks more = (disks ≡ w.disks) × (more ≡ Some e)
IsCaught None None w disks more = (disks ≡ w.disks) × (more ≡ None)
IsCaught None (Some f) w disks None = (disks ≡ w.disks) × (cause : Cause) × IsVerdict w.history f.0 f.1 (Err cause)
IsCaught None (Some f) w disks (Some e) =
    (disks ≡ called (take f.2 (calls_for w.history e)) w.disks) × (outcome : Outcome) × Lets w.history f.0 f.1 e outcome

-- The first of the two files, the ledger before the store, that may not be left so.
abbrev pub IsNoImage : Disks → List ℕ → List ℕ → ℕ → Type 0
IsNoImage disks store ledger file =
    ((file ≡ 0) × (IsImage (file_of disks.ledger) ledger → ⊥))
    ⊎ ((file ≡ 1) × IsImage (file_of disks.ledger) ledger × (IsImage (file_of disks.store) store → ⊥))

module _ (id_of : Kind → List ℕ → List ℕ) where
  -- The files are these images, and the history is the one for which they stand.
  pub record Crashes (flight : Option (ℕ × Wish × ℕ)) (store ledger : List ℕ) (w : World) (events : ℕ) (w' : World) : Type 0 where
    pub disks : Disks
    pub more : Option Event
    pub caught : IsCaught w.doubt flight w disks more
    pub ledger_is : IsImage (file_of disks.ledger) ledger
    pub store_is : IsImage (file_of disks.store) store
    pub h : List Event
    pub stands : StandsFor ledger store h
    pub history : IsHistory id_of h
    pub count : events ≡ length h
    pub reopens : w' ≡ reopened h ledger store w

  -- One step, what is told of it, and the world afterwards.
  abbrev pub IsWorldStep : World → Step → Result Told StepFault → World → Type 0
  IsWorldStep w (Apply actor wish h) (Ok t) w' = Applies actor wish h w t w'
  IsWorldStep w (Look actor) (Ok t) w' = (t ≡ told.Front w.shown) × (w' ≡ sees actor (take w.shown w.history) w)
  IsWorldStep w (Fault actor wish call) (Ok t) w' = Faults actor wish call w t w'
  IsWorldStep w (Crash flight store ledger) (Ok (told.Opened events)) w' = Crashes flight store ledger w events w'
  IsWorldStep w (Crash flight store ledger) (Err (NotImage file)) w' =
      (disks : Disks) × (more : Option Event) × IsCaught w.doubt flight w disks more × IsNoImage disks store ledger file
      × (w' ≡ w)
  IsWorldStep w step (Err Memory) w' = w' ≡ w
  IsWorldStep w step _ w' = ⊥

  -- All steps were taken, one after another, and this was told of them; or those before one of them that met this fault, which
  -- left the world as those before it had made it. A list without steps meets none.
  abbrev pub IsRun : World → List Step → Result (List Told) StepFault → World → Type 0
  IsRun w [] (Ok []) w' = w' ≡ w
  IsRun w (step ∷ steps) (Ok (t ∷ ts)) w' = (mid : World) × IsWorldStep w step (Ok t) mid × IsRun mid steps (Ok ts) w'
  IsRun w (step ∷ steps) (Err fault) w' =
      IsWorldStep w step (Err fault) w'
      ⊎ ((t : Told) × (mid : World) × IsWorldStep w step (Ok t) mid × IsRun mid steps (Err fault) w')
  IsRun w steps r w' = ⊥

  -- What is asked of a step: its actor is there, and its wish is one.
  abbrev pub IsMeant : ℕ → Step → Type 0
  IsMeant actors (Apply actor wish h) = (actor < actors) × IsWish id_of wish
  IsMeant actors (Look actor) = actor < actors
  IsMeant actors (Fault actor wish call) = (actor < actors) × IsWish id_of wish
  IsMeant actors (Crash None store ledger) = Unit {0}
  IsMeant actors (Crash (Some f) store ledger) = (f.0 < actors) × IsWish id_of f.1
