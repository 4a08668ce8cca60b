-- A stream that is read part by part, as a loader reads it.
use Rattle.std.specs.Prelude.{◌≡◌, ◌⊎◌, ◌<◌, ℕ, Option, List, ◌++◌, Contains}
use Rattle.swh_base.specs.declared.kind.Kind.{Kind}
use Rattle.swh_base.specs.declared.entry.Entry.{Entry}
use Rattle.swh_base.specs.declared.visit.VisitKind.TheVariants.{Fast}
use Rattle.swh_outside.specs.Faults.{Rose}
use Rattle.swh_model.specs.Meaning.{Made, StreamMeaning}
use Rattle.swh_fastread.specs.declared.reader.Ending.TheVariants.{Open}
use Rattle.swh_fastload.specs.Giving.{EndsStream, GoesOn, MayGive, StreamState}
use Rattle.swh_batchread.specs.Giving.{GivesFirst}
use Rattle.swh_ingest.specs.declared.parts.Next.{Next}
use Rattle.swh_ingest.specs.declared.parts.Next.TheVariants as next
use Rattle.swh_inputs.specs.Input.{InputText, BreaksInput, MayBreakInput, MeansInput}
use Rattle.swh_inputs.specs.Input.InputText.{StreamText, FolderText, BatchText}
use Rattle.swh_inputs.specs.declared.bad.InputFault.{InputFault}
use Rattle.swh_inputs.specs.declared.bad.InputFault.TheVariants.{Bad, ReadFault}

-- The input means something, of which these are objects.
pub record AreMeantBy (id : Kind → List ℕ → List ℕ) (text : InputText) (objects : List Made) : Type 0 where
  pub meaning : StreamMeaning
  pub means : MeansInput id text meaning
  pub among : (m : Made) → Contains objects m → Contains meaning.objects m

-- These are objects that the input may have given where its reading stopped: of a stream what whole commands at its front make,
-- of a batch the objects at its front that are good, each kind and body once, and of each input what it means.
unfoldable pub MayGiveInput : (Kind → List ℕ → List ℕ) → InputText → List Made → Type 0
MayGiveInput id (StreamText head text) objects = MayGive id head text objects
MayGiveInput id (FolderText tree listing) objects = AreMeantBy id (FolderText tree listing) objects
MayGiveInput id (BatchText of_batch refs) objects = GivesFirst id of_batch objects ⊎ AreMeantBy id (BatchText of_batch refs) objects

-- The stream may be read on.
abbrev pub MayGoOn : StreamState → Type 0
MayGoOn s = s.standing.ending ≡ Open

-- The reader came on, and the stream may be read on.
pub record CameOn (old new : StreamState) : Type 0 where
  pub still : MayGoOn new
  pub onward : old.standing.place.at < new.standing.place.at

-- What comes after these objects.
abbrev pub IsNextOf : {N : Type 0} → (Kind → List ℕ → List ℕ) → Type 0 → Option (List ℕ) → List ℕ → ℕ → List ℕ → List Entry → StreamState → Next N InputFault → Type 0
IsNextOf id tells head text faults path given s (next.Part objects) = GoesOn id tells text faults path (given ++ objects.items) s
IsNextOf id tells head text faults path given s (next.Last last) = EndsStream id tells head text faults path given s last
IsNextOf id tells head text faults path given s (next.Bad (Bad bad)) = MayBreakInput Fast bad × (tells → BreaksInput id (StreamText head text) bad)
IsNextOf id tells head text faults path given s (next.Bad ReadFault) = Rose faults s.standing.place.faults
