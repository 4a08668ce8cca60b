-- What a visit's end says of its input and of the archive.
use Rattle.std.specs.Prelude.{◌≡◌, ℕ, Some, None, Result, Ok, Err, List, [], ◌∷◌, Contains}
use Rattle.std.specs.List.{AllByRecursion}
use Rattle.swh_base.specs.declared.kind.Kind.{Kind}
use Rattle.swh_base.specs.declared.name.Name.{Name}
use Rattle.swh_base.specs.declared.entry.Entry.{Entry}
use Rattle.swh_base.specs.declared.visit.Status.TheVariants.{Ongoing, Full as FullStatus, NotFound as NotFoundStatus, Failed as FailedStatus}
use Rattle.swh_base.specs.Visit.{Statuses}
use Rattle.swh_model.specs.Archive.{Bodies}
use Rattle.swh_model.specs.Step.{HasItsChildrenAndName, replay}
use Rattle.swh_dedup.specs.Making.{made}
use Rattle.swh_keeper.specs.Kept.{Kept}
use Rattle.swh_ingest.specs.declared.end.End as walk
use Rattle.swh_ingest.specs.declared.end.Loaded.{Loaded as WalkLoaded}
use Rattle.swh_ingest.specs.declared.end.LoadFault.{LoadFault}
use Rattle.swh_ingest.specs.declared.end.End.TheVariants as walked
use Rattle.swh_ingest.specs.declared.input.Opening.{Opening}
use Rattle.swh_ingest.specs.declared.input.Opening.TheVariants as opening
use Rattle.swh_ingest.specs.Sending.{AllHeld, IsMet}
use Rattle.swh_inputs.specs.Input.{InputText, MeansInput}
use Rattle.swh_inputs.specs.Streaming.{MayGiveInput}
use Rattle.swh_inputs.specs.Opening.{opening_of}
use Rattle.swh_inputs.specs.Parts.{Parts, IfTold, HasFailed, IsQuiet}
use Rattle.swh_inputs.specs.Reading.{BreaksLeft}
use Rattle.swh_inputs.specs.declared.bad.InputFault.{InputFault}
use Rattle.swh_inputs.specs.declared.bad.InputFault.TheVariants as fault
use Rattle.swh_inputs.specs.declared.input.Input.{Input}
use Rattle.swh_loader.specs.declared.end.BadInput.{BadInput}
use Rattle.swh_loader.specs.declared.end.BadInput.TheVariants.{Broken, Collision, Read}
use Rattle.swh_loader.specs.declared.end.End.{End}
use Rattle.swh_loader.specs.declared.end.End.TheVariants.{Full, NotFound, Failed}
use Rattle.swh_loader.specs.declared.end.Loaded.{Loaded}

-- the bodies that an archive holds
abbrev pub held_bodies : {D : Type 0} → Kept D → Bodies
held_bodies k = (replay k.history).bodies

-- the statuses of a visit after its first
abbrev pub statuses_of : End → Statuses
statuses_of (Full snapshot) = (Ongoing, None) ∷ (FullStatus, Some snapshot) ∷ []
statuses_of NotFound = (NotFoundStatus, None) ∷ []
statuses_of (Failed bad) = (Ongoing, None) ∷ (FailedStatus, None) ∷ []

-- how the end of a load is reported
abbrev pub end_for : walk.End InputFault → End
end_for (walked.Full snapshot) = Full snapshot
end_for walked.NotFound = NotFound
end_for walked.Unread = Failed Read
end_for (walked.Bad (fault.Bad bad)) = Failed (Broken bad)
end_for (walked.Bad fault.ReadFault) = Failed Read
end_for (walked.Met name) = Failed (Collision name)

-- what a load came to, as it is reported
abbrev pub outcome_for : Result (WalkLoaded InputFault) LoadFault → Result Loaded LoadFault
outcome_for (Ok loaded) = Ok (record { visit = loaded.visit; end = end_for loaded.end })
outcome_for (Err fault) = Err fault

-- The input means these objects, each under its name and with its children, and this snapshot.
pub record MeansObjects (id : Kind → List ℕ → List ℕ) (text : InputText) (objects : List Entry) (snapshot : List ℕ) : Type 0 where
  pub meaning : MeansInput id text (record { objects = made objects; snapshot = snapshot })
  pub good : AllByRecursion (HasItsChildrenAndName id) objects

-- The input may give these objects before its reading stops, each under its name and with its children.
pub record MayGiveObjects (id : Kind → List ℕ → List ℕ) (text : InputText) (objects : List Entry) : Type 0 where
  pub given : MayGiveInput id text (made objects)
  pub good : AllByRecursion (HasItsChildrenAndName id) objects

-- The input may give this object before its reading stops: one that it means, of a stream one that whole commands at its front make,
-- or of a batch one of the good objects at its front.
pub record IsGivenBy (id : Kind → List ℕ → List ℕ) (text : InputText) (e : Entry) : Type 0 where
  pub objects : List Entry
  pub may : MayGiveObjects id text objects
  pub among : Contains objects e

-- All of the input is held.
pub record IsFull (id : Kind → List ℕ → List ℕ) (text : InputText) (bodies : Bodies) (snapshot : List ℕ) : Type 0 where
  pub objects : List Entry
  pub means : MeansObjects id text objects snapshot
  pub held : AllHeld bodies objects

-- Another body is held under the name of an object that the input may give before its reading stops.
pub record Collided (id : Kind → List ℕ → List ℕ) (text : InputText) (bodies : Bodies) (name : Name) : Type 0 where
  pub objects : List Entry
  pub may : MayGiveObjects id text objects
  pub collision : IsMet bodies objects name

-- Nothing failed unheard: unless the end tells that a part of the input failed, none did.
abbrev pub IsQuietEnd : {S F : Type 0} → Parts S F → Input S F → Input S F → End → Type 0
IsQuietEnd p i now (Full snapshot) = IsQuiet p i now
IsQuietEnd p i now NotFound = IsQuiet p i now
IsQuietEnd p i now (Failed (Broken bad)) = IsQuiet p i now
IsQuietEnd p i now (Failed (Collision name)) = IsQuiet p i now
IsQuietEnd p i now (Failed Read) = Unit {0}

module _ {S F : Type 0} (id : Kind → List ℕ → List ℕ) (p : Parts S F) where
  -- Where the parts of the input tell what they hold, that may give each of these entries.
  abbrev pub AreGivenBy : Input S F → List Entry → Type 0
  AreGivenBy i entries = IfTold p i (λ text. AllByRecursion (IsGivenBy id text) entries)

  module _ (bodies : Bodies) where
    -- Why an input, `i` before the load and `now` after it, is bad: what its parts held breaks so, or an object of it
    -- collides; or one of them failed, and its count of faults rose.
    abbrev pub IsBad : Input S F → Input S F → BadInput → Type 0
    IsBad i now (Broken bad) = BreaksLeft id p i bad
    IsBad i now (Collision name) = IfTold p i (λ text. Collided id text bodies name)
    IsBad i now Read = HasFailed p i now

    -- What the end says of an input that is found.
    abbrev pub IsEndOf : Input S F → Input S F → End → Type 0
    IsEndOf i now (Full snapshot) = IfTold p i (λ text. IsFull id text bodies snapshot)
    IsEndOf i now NotFound = ⊥
    IsEndOf i now (Failed bad) = IsBad i now bad

    -- What the end says of an input that was found so.
    abbrev pub IsEndAt : Opening → Input S F → Input S F → End → Type 0
    IsEndAt opening.Found i now end = IsEndOf i now end
    IsEndAt opening.NotFound i now end = end ≡ NotFound
    IsEndAt opening.Failed i now end = end ≡ Failed Read
    IsEndAt opening.Memory i now end = ⊥

    -- What the end says of an input as it was opened.
    abbrev pub IsJobEnd : Input S F → Input S F → End → Type 0
    IsJobEnd i now end = IsEndAt (opening_of i) i now end
