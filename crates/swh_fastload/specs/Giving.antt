-- What an input may have given where its reading stopped, and how a stream goes on of which some parts were given.
use Rattle.std.specs.Prelude.{◌≡◌, ◌⊎◌, ℕ, Option, List, [], ◌++◌, Contains, Result}
use Rattle.swh_base.specs.declared.kind.Kind.{Kind}
use Rattle.swh_base.specs.declared.entry.Entry.{Entry}
use Rattle.swh_base.specs.Snapshot.{snapshot_name}
use Rattle.swh_outside.specs.Faults.{Rose}
use Rattle.swh_model.specs.Meaning.{Made, StreamMeaning}
use Rattle.swh_dedup.specs.declared.objects.Objects.{Objects}
use Rattle.swh_dedup.specs.Giving.{AreNew}
use Rattle.swh_dedup.specs.Making.{made}
use Rattle.swh_dedup.specs.Whole.{AreWhole, names_of}
use Rattle.swh_fastgrammar.specs.declared.command.Command.{Command}
use Rattle.swh_fastrows.specs.Outcome.{StartsWith}
use Rattle.swh_fastrows.specs.Places.{Position, position}
use Rattle.swh_fastread.specs.declared.reader.Ending.TheVariants.{Open}
use Rattle.swh_fastread.specs.Standing.{Standing}
use Rattle.swh_fastmeaning.specs.Commands.{Making, Makes}
use Rattle.swh_fastmeaning.specs.Feeding.{Loading}
use Rattle.swh_fastmeaning.specs.declared.feed_fault.FeedFault.{FeedFault}
use Rattle.swh_fastload.specs.declared.bad.InputFault.{InputFault}
use Rattle.swh_fastload.specs.declared.bad.InputFault.TheVariants.{Bad, ReadFault, Memory}
use Rattle.swh_fastload.specs.declared.parts.StreamPart.{StreamPart}
use Rattle.swh_fastload.specs.declared.parts.StreamPart.TheVariants.{More, Last}
use Rattle.swh_fastload.specs.Input.{beginning, AreCarriedOut, Means, Breaks, MayBreak}
use Rattle.swh_fastload.specs.Reading.{HasGiven, HasCome, StopsAtEnd}

-- The text begins with whole commands that are carried out, and each of these is something that they make.
pub record MakesFirst (id : Kind → List ℕ → List ℕ) (text : List ℕ) (objects : List Made) : Type 0 where
  pub commands : List Command
  pub making : Making
  pub rest : Position
  pub starts : StartsWith (beginning text) rest commands
  pub carried : AreCarriedOut id commands making
  pub makes : (m : Made) → Contains objects m → Makes id making m

-- The text means something, of which these are objects.
pub record AreMeant (id : Kind → List ℕ → List ℕ) (head : Option (List ℕ)) (text : List ℕ) (objects : List Made) : Type 0 where
  pub meaning : StreamMeaning
  pub means : Means id head text meaning
  pub among : (m : Made) → Contains objects m → Contains meaning.objects m

-- These are objects that the input may have given where its reading stopped: the whole commands before make them, or, at its
-- end, it means them.
unfoldable pub MayGive : (Kind → List ℕ → List ℕ) → Option (List ℕ) → List ℕ → List Made → Type 0
MayGive id head text objects = MakesFirst id text objects ⊎ AreMeant id head text objects

-- where the reader of a stream stands, and what its loader knows
pub record StreamState : Type 0 where
  pub standing : Standing
  pub loading : Result Loading FeedFault

-- The commands so far were carried out, these are their objects, and no read failed. What the source had left at first was the
-- text, which is said where it tells it; it was opened at the path, and its count of faults was `faults`.
pub record GoesOn (id : Kind → List ℕ → List ℕ) (tells : Type 0) (text : List ℕ) (faults : ℕ) (path : List ℕ) (given : List Entry) (s : StreamState) : Type 0 where
  pub are : HasGiven id s.loading given
  pub come : tells → HasCome id text (position s.standing.place s.standing.promised) s.loading given
  pub still : s.standing.ending ≡ Open
  pub same_path : s.standing.place.path ≡ path
  pub quiet : s.standing.place.faults ≡ faults

-- what was given in all, with this snapshot, means
abbrev pub meaning_of : List Entry → List ℕ → StreamMeaning
meaning_of objects snapshot = record { objects = made objects; snapshot = snapshot }

-- The objects have all of their children, and the snapshot is one of them. Each comes once, and after all that it names.
pub record AreWholeAndNew (id : Kind → List ℕ → List ℕ) (objects : List Entry) (snapshot : List ℕ) : Type 0 where
  pub whole : AreWhole id objects
  pub root : Contains (names_of objects) (snapshot_name snapshot)
  pub order : AreNew id [] objects

-- The stream ended: with these last objects all that it means was given.
pub record EndsStream {N : Type 0} (id : Kind → List ℕ → List ℕ) (tells : Type 0) (head : Option (List ℕ)) (text : List ℕ) (faults : ℕ) (path : List ℕ) (given : List Entry) (s : StreamState) (last : Objects N) : Type 0 where
  pub means : tells → Means id head text (meaning_of (given ++ last.objects.items) last.snapshot)
  pub all : AreWholeAndNew id (given ++ last.objects.items) last.snapshot
  pub stops : tells → StopsAtEnd text s.standing.place
  pub same_path : s.standing.place.path ≡ path
  pub quiet : s.standing.place.faults ≡ faults

-- What comes after these objects.
abbrev pub GivesNext : {N : Type 0} → (Kind → List ℕ → List ℕ) → Type 0 → Option (List ℕ) → List ℕ → ℕ → List ℕ → List Entry → StreamState → StreamPart N → Type 0
GivesNext id tells head text faults path given s (More objects) = GoesOn id tells text faults path (given ++ objects.items) s
GivesNext id tells head text faults path given s (Last last) = EndsStream id tells head text faults path given s last

-- Where the stream goes on, this holds.
abbrev pub IfMore : {N : Type 0} → StreamPart N → Type 0 → Type 0
IfMore (More objects) P = P
IfMore (Last last) P = Unit {0}

-- The stream ends with this part.
abbrev pub IsLast : {N : Type 0} → StreamPart N → Type 0
IsLast (More objects) = ⊥
IsLast (Last last) = Unit {0}

-- Where the stream ends, this holds of its last objects.
abbrev pub IfLast : {N : Type 0} → (Objects N → Type 0) → StreamPart N → Type 0
IfLast P (More objects) = Unit {0}
IfLast P (Last last) = P last

-- Why nothing comes any more: the stream breaks so, which is said of the text where the source tells it; or the source failed, and
-- its count of faults rose from `old` to `new`; or memory ran out.
abbrev pub BreaksOff : (Kind → List ℕ → List ℕ) → Type 0 → Option (List ℕ) → List ℕ → ℕ → ℕ → InputFault → Type 0
BreaksOff id tells head text old new (Bad bad) = MayBreak bad × (tells → Breaks id head text bad)
BreaksOff id tells head text old new ReadFault = Rose old new
BreaksOff id tells head text old new Memory = Unit {0}
