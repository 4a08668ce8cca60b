-- What an input means, and how it breaks (git-fast-import(1), input format and commands): all that the loader and the
-- program know of inputs. What is meant are objects, with the snapshot among them, as a set: two makings of one input may
-- have them in different orders. `id` gives the id of a kind and a body.
use Rattle.std.specs.Prelude.{◌≡◌, ◌⊎◌, ◌↔◌, ℕ, ◌<◌, ◌≤◌, false, Option, List, [], ◌∷◌, ◌++◌, length, Contains, Result, Ok, Err}
use Rattle.swh_base.specs.Limits.{body_limit}
use Rattle.swh_base.specs.declared.kind.Kind.{Kind}
use Rattle.swh_base.specs.declared.kind.Kind.TheVariants.{Snapshot}
use Rattle.swh_base.specs.declared.visit.Which.{Which}
use Rattle.swh_base.specs.declared.visit.Which.TheVariants.{Body, Refs}
use Rattle.swh_model.specs.Meaning.{Made, StreamMeaning}
use Rattle.swh_fastgrammar.specs.declared.command.Command.{Command}
use Rattle.swh_fastgrammar.specs.declared.fault.StreamWhy.{StreamWhy}
use Rattle.swh_fastrows.specs.Failing.{MayPass}
use Rattle.swh_fastrows.specs.Outcome.{IsStreamWithin, IsFaultWithin, PassesFirst, StartsWith}
use Rattle.swh_fastrows.specs.Places.{Position}
use Rattle.swh_fastload.specs.declared.bad.BadStream.{BadStream}
use Rattle.swh_fastload.specs.declared.bad.BadStream.TheVariants.{Stream, Limit}
use Rattle.swh_fastmeaning.specs.Aims.{Missing}
use Rattle.swh_fastmeaning.specs.Commands.{Making, Makes, no_making, step, steps}
use Rattle.swh_fastmeaning.specs.Ending.{refs_limit, PassesEnd}
use Rattle.swh_fastmeaning.specs.Feeding.{IsTooLong}
use Rattle.swh_fastmeaning.specs.Snapshots.{refs_of, snapshot_of}

-- The two have the same objects, in whatever order, and the same snapshot.
pub record IsSameMaking (m n : StreamMeaning) : Type 0 where
  pub objects : (o : Made) → Contains m.objects o ↔ Contains n.objects o
  pub snapshot : m.snapshot ≡ n.snapshot

-- where a stream begins
abbrev pub beginning : List ℕ → Position
beginning text = record { at = 0; promised = false; left = text }

module _ (id : Kind → List ℕ → List ℕ) where
  -- The commands make this, and none of its bodies is above the limit.
  pub record AreCarriedOut (commands : List Command) (making : Making) : Type 0 where
    pub makes : steps id no_making commands ≡ Ok making
    pub short : (m : Made) → Makes id making m → length m.body ≤ body_limit

  -- The text has a first fault; the whole commands before are carried out.
  pub record BreaksAt (text : List ℕ) (at : ℕ) (why : StreamWhy) : Type 0 where
    pub commands : List Command
    pub making : Making
    pub fault : IsFaultWithin 0 false text commands at why
    pub carried : AreCarriedOut commands making

  -- The text passes a limit first; the whole commands before are carried out.
  pub record PassesAt (text : List ℕ) (which : Which) (number : ℕ) : Type 0 where
    pub commands : List Command
    pub making : Making
    pub passes : PassesFirst 0 false text commands which number
    pub carried : AreCarriedOut commands making

  -- The text begins with whole commands that are carried out, and with one more, of whose result `P` holds.
  pub record StopsAt (text : List ℕ) (P : Result Making Missing → Type 0) : Type 0 where
    pub commands : List Command
    pub command : Command
    pub making : Making
    pub rest : Position
    pub starts : StartsWith (beginning text) rest (commands ++ command ∷ [])
    pub carried : AreCarriedOut commands making
    pub stops : P (step id making.aims command)

  -- The next command makes a body of `number` bytes, above the limit.
  abbrev pub MakesAbove : List ℕ → Which → ℕ → Type 0
  MakesAbove text which number = (which ≡ Body) × StopsAt text (λ found. IsTooLong id found number)

module _ (id : Kind → List ℕ → List ℕ) (head : Option (List ℕ)) where
  -- The snapshot of the refs at the end is within the limits.
  pub record EndsWithin (making : Making) : Type 0 where
    pub refs : length (refs_of making.aims) ≤ refs_limit
    pub body : length (snapshot_of head making.aims).body ≤ body_limit

  -- The objects are those that are made and their snapshot.
  pub record IsMeant (making : Making) (meaning : StreamMeaning) : Type 0 where
    pub objects : (m : Made) → Contains meaning.objects m ↔ (Makes id making m ⊎ (m ≡ snapshot_of head making.aims))
    pub snapshot : meaning.snapshot ≡ id Snapshot (snapshot_of head making.aims).body

  -- The text is a stream, within the limits, whose commands make this.
  pub record MeansStream (text : List ℕ) (meaning : StreamMeaning) : Type 0 where
    pub commands : List Command
    pub making : Making
    pub stream : IsStreamWithin 0 false text commands
    pub carried : AreCarriedOut id commands making
    pub within : EndsWithin making
    pub meant : IsMeant making meaning

  -- The text is a stream whose commands are carried out, and what it ends with passes a limit.
  pub record EndsAbove (text : List ℕ) (which : Which) (number : ℕ) : Type 0 where
    pub commands : List Command
    pub making : Making
    pub stream : IsStreamWithin 0 false text commands
    pub carried : AreCarriedOut id commands making
    pub above : PassesEnd head making.aims which number

-- Where this head is named, or none, the input means this, by a namer's ids.
unfoldable pub Means : (Kind → List ℕ → List ℕ) → Option (List ℕ) → List ℕ → StreamMeaning → Type 0
Means id head text making = MeansStream id head text making

-- The input breaks in this way, where this head is named, or none: by its first fault, or by the first limit that it
-- passes.
unfoldable pub Breaks : (Kind → List ℕ → List ℕ) → Option (List ℕ) → List ℕ → BadStream → Type 0
Breaks id head text (Stream at why) = BreaksAt id text at why ⊎ StopsAt id text (λ found. found ≡ Err (record { at = at; why = why }))
Breaks id head text (Limit which number) = PassesAt id text which number ⊎ (MakesAbove id text which number ⊎ EndsAbove id head text which number)

-- Some input may break in this way: by any fault at any place, by a limit that its text or a body passes, or by refs.
unfoldable pub MayBreak : BadStream → Type 0
MayBreak (Stream at why) = Unit {0}
MayBreak (Limit which number) = MayPass which number ⊎ ((which ≡ Refs) × (refs_limit < number))
