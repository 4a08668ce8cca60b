-- Connections that are served one after another over a keeper.
use Rattle.std.specs.Prelude.{◌≡◌, ◌<◌, ℕ, ◌+◌, Bool, false, List, [], ◌∷◌, ◌++◌, length, Result, Ok, Err}
use Rattle.swh_base.specs.declared.kind.Kind.{Kind}
use Rattle.swh_outside.specs.Link.{LinkNote}
use Rattle.swh_outside.specs.Views.{Disks}
use Rattle.swh_keeper.specs.Kept.{Kept}
use Rattle.swh_serve.specs.declared.fault.ServeFault.{ServeFault}
use Rattle.swh_serve.specs.declared.fault.ServeFault.TheVariants.{Read, Write, Short, Memory}
use Rattle.swh_serve.specs.declared.serving.Served.{Served}
use Rattle.swh_serve.specs.Causes.{IsServeCause}
use Rattle.swh_serve.specs.Served.{Seen, IsServed}
use Rattle.swh_desk.specs.Keeper.{keeper_protocol}
use Rattle.swh_desk.specs.declared.tally.Ended.{Ended}
use Rattle.swh_desk.specs.declared.tally.Ended.TheVariants.{Whole, Broken, Starved}
use Rattle.swh_desk.specs.declared.tally.Tally.{Tally}
use Rattle.swh_desk.specs.declared.tally.ServeStop.{ServeStop}
use Rattle.swh_desk.specs.declared.tally.ServeStop.TheVariants.{Door, Clock}

-- ---- one connection

-- A link that was served at a date, with what is noted of it when it was given back; or one that was not let in, since
-- there was no memory for it.
pub data Connection : Type 0 where
  ServedAt : (date : ℕ) → (note : LinkNote) → (result : Result Served ServeFault) → Connection
  NotLetIn : Connection

-- how a connection counts that ended so
abbrev pub ended : Result Served ServeFault → Ended
ended (Ok served) = Whole
ended (Err Memory) = Starved
ended (Err Read) = Broken
ended (Err Write) = Broken
ended (Err (Short held)) = Broken

abbrev pub end_of : Connection → Ended
end_of (ServedAt date note result) = ended result
end_of NotLetIn = Starved

-- what doors note of a link that is given back, which is seen by these
abbrev pub note_by : {L : Type 0} → (L → List ℕ) → (L → Bool) → (L → List ℕ) → (L → ℕ) → L → LinkNote
note_by given ended taken faults link = record { given = given link; ended = ended link; taken = taken link; faults = faults link }

-- what is seen of a link of which this is noted
abbrev pub seen_of : LinkNote → Seen
seen_of note = record { given = note.given; ended = note.ended; taken = note.taken }

-- of a link that gave and took nothing, and had no fault
abbrev pub nothing_noted : LinkNote
nothing_noted = record { given = []; ended = false; taken = []; faults = 0 }

abbrev pub notes_of : Connection → List LinkNote
notes_of (ServedAt date note result) = note ∷ []
notes_of NotLetIn = []

-- The dates are what a clock says at its next calls, one at each link.
abbrev pub AreDated : (ℕ → ℕ) → List Connection → Type 0
AreDated time [] = Unit {0}
AreDated time (ServedAt date note result ∷ connections) = (date ≡ time 0) × AreDated (λ k. time (k + 1)) connections
AreDated time (NotLetIn ∷ connections) = AreDated time connections

-- a clock behind a connection
abbrev pub IsClockBehind : Connection → (ℕ → ℕ) → (ℕ → ℕ) → Type 0
IsClockBehind (ServedAt date note result) time time' = (date ≡ time 0) × ((k : ℕ) → time' k ≡ time (k + 1))
IsClockBehind NotLetIn time time' = (k : ℕ) → time' k ≡ time k

-- ---- all of them

abbrev pub notes : List Connection → List LinkNote
notes [] = []
notes (connection ∷ connections) = notes_of connection ++ notes connections

-- one more, where it ended so
abbrev pub one_if_broken : Ended → ℕ
one_if_broken Broken = 1
one_if_broken Whole = 0
one_if_broken Starved = 0

abbrev pub one_if_starved : Ended → ℕ
one_if_starved Starved = 1
one_if_starved Whole = 0
one_if_starved Broken = 0

abbrev pub broken_among : List Connection → ℕ
broken_among [] = 0
broken_among (connection ∷ connections) = one_if_broken (end_of connection) + broken_among connections

abbrev pub starved_among : List Connection → ℕ
starved_among [] = 0
starved_among (connection ∷ connections) = one_if_starved (end_of connection) + starved_among connections

-- A count of connections goes on by these.
pub record GoesOnBy (connections : List Connection) (old new : Tally) : Type 0 where
  pub served : new.served ≡ old.served + length connections
  pub broken : new.broken ≡ old.broken + broken_among connections
  pub starved : new.starved ≡ old.starved + starved_among connections

abbrev pub no_connection : Tally
no_connection = record { served = 0; broken = 0; starved = 0 }

-- What a server has at hand: the keeper, the links that were given back, and what the clock will say.
pub record Hall (D : Type 0) : Type 0 where
  pub keeper : Kept D
  pub back : List LinkNote
  pub time : ℕ → ℕ

-- whether the doors, their links and the clock tell
pub record Telling : Type 1 where
  pub doors : Type 0
  pub links : Type 0
  pub clock : Type 0

module _ {D : Type 0} (id : Kind → List ℕ → List ℕ) (disks : Disks D) (t : Telling) where
  -- A link that had given and taken nothing was served over the keeper, and this is noted of it.
  pub record IsLinkServed (date : ℕ) (note : LinkNote) (result : Result Served ServeFault) (old new : Kept D) : Type 0 where
    pub fresh : Seen
    pub nothing : t.doors → fresh ≡ seen_of nothing_noted
    pub served : IsServed (keeper_protocol id disks date) t.links old new fresh (seen_of note) result
    pub cause : IsServeCause 0 note.faults result

  -- what a connection comes to
  abbrev pub IsConnection : Connection → Kept D → Kept D → Type 0
  IsConnection (ServedAt date note result) old new = IsLinkServed date note result old new
  IsConnection NotLetIn old new = new ≡ old

  -- Connections were served, each from where the one before it left the keeper.
  abbrev pub AreConnections : List Connection → Kept D → Kept D → Type 0
  AreConnections [] old new = new ≡ old
  AreConnections (connection ∷ connections) old new =
      (mid : Kept D) × IsConnection connection old mid × AreConnections connections mid new

  -- what came of one turn: a connection; or the doors failed, or the clock did, and then a link was let in and given back
  -- as it was
  abbrev pub IsTurnEnd : Hall D → Hall D → Result Ended ServeStop → Type 0
  IsTurnEnd old new (Ok end) =
      (connection : Connection) × (end ≡ end_of connection) × IsConnection connection old.keeper new.keeper
      × (t.doors → new.back ≡ old.back ++ notes_of connection) × (t.clock → IsClockBehind connection old.time new.time)
  IsTurnEnd old new (Err Door) = (new.keeper ≡ old.keeper) × (t.doors → new.back ≡ old.back)
  IsTurnEnd old new (Err Clock) = (new.keeper ≡ old.keeper) × (t.doors → new.back ≡ old.back ++ nothing_noted ∷ [])

  -- All connections were served, and counted; or the doors failed before the last, or the clock did.
  abbrev pub IsEnd : ℕ → Tally → List Connection → Hall D → Hall D → Result Tally ServeStop → Type 0
  IsEnd count counted connections old new (Ok tally) =
      (length connections ≡ count) × GoesOnBy connections counted tally
      × (t.doors → new.back ≡ old.back ++ notes connections)
  IsEnd count counted connections old new (Err Door) =
      (length connections < count) × (t.doors → new.back ≡ old.back ++ notes connections)
  IsEnd count counted connections old new (Err Clock) =
      (length connections < count) × (t.doors → new.back ≡ old.back ++ notes connections ++ nothing_noted ∷ [])

  -- So many connections were served, one after another, where some are counted already.
  pub record AreServedFrom (count : ℕ) (counted : Tally) (old new : Hall D) (result : Result Tally ServeStop) : Type 0 where
    pub connections : List Connection
    pub are : AreConnections connections old.keeper new.keeper
    pub dated : t.clock → AreDated old.time connections
    pub end : IsEnd count counted connections old new result

  -- So many connections were served.
  abbrev pub AreServed : ℕ → Hall D → Hall D → Result Tally ServeStop → Type 0
  AreServed count old new result = AreServedFrom count no_connection old new result
