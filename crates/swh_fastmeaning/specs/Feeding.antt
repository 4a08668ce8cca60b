-- What a loader gives for a command (git-fast-import(1), commands): the objects that it makes and that were not made before,
-- each after all that it names; or why it refuses the command.
use Rattle.std.specs.Prelude.{◌≡◌, ◌⊎◌, ℕ, ◌<◌, List, [], ◌∷◌, ◌++◌, length, Contains, Option, Some, None, Result, Ok, Err}
use Rattle.std.specs.List.{AllByRecursion}
use Rattle.swh_base.specs.declared.kind.Kind.{Kind}
use Rattle.swh_base.specs.declared.entry.Entry.{Entry}
use Rattle.swh_base.specs.declared.visit.Which.TheVariants.{Body}
use Rattle.swh_base.specs.Limits.{body_limit}
use Rattle.swh_model.specs.Meaning.{Made}
use Rattle.swh_fastgrammar.specs.declared.command.Command.{Command}
use Rattle.swh_fastmeaning.specs.declared.feed_fault.FeedFault.{FeedFault}
use Rattle.swh_fastmeaning.specs.declared.feed_fault.FeedFault.TheVariants.{BadStream, Limit, Memory}
use Rattle.swh_fastmeaning.specs.Aims.{Missing}
use Rattle.swh_fastmeaning.specs.Changes.{AreShort}
pub use Rattle.swh_fastgrammar.specs.Givable.{IsGivable}
use Rattle.swh_fastmeaning.specs.Commands.{Targets, Making, Makes, step}
use Rattle.swh_dedup.specs.Making.{made_from, made}
use Rattle.swh_dedup.specs.Giving.{AreNew}

-- what is known between two commands: marks and tips, and the objects that were given, in their order
pub record Loading : Type 0 where
  pub aims : Targets
  pub given : List Made

-- what is known, or the refusal that ended the load
abbrev pub state_of : Option FeedFault → Loading → Result Loading FeedFault
state_of None loading = Ok loading
state_of (Some fault) loading = Err fault

module _ (id : Kind → List ℕ → List ℕ) where
  -- These objects are given for the command: each is one that it makes, and each that it makes is given now or was before.
  pub record Feeds (old : Loading) (command : Command) (new : Loading) (objects : List Entry) : Type 0 where
    pub making : Making
    pub is : step id old.aims command ≡ Ok making
    pub aims : new.aims ≡ making.aims
    pub given : new.given ≡ old.given ++ made objects
    pub each : AllByRecursion (λ e. Makes id making (made_from e)) objects
    pub all : (m : Made) → Makes id making m → Contains new.given m
    pub fresh : AreNew id old.given objects

  -- One of the bodies that are made has this many bytes, above the limit, and is the first such: contents come in the order
  -- of their lines, then the directories, of which any may be told, and last the revision.
  pub record IsTooLong (found : Result Making Missing) (number : ℕ) : Type 0 where
    pub making : Making
    pub is : found ≡ Ok making
    pub object : Made
    pub makes : Makes id making object
    pub long : number ≡ length object.body
    pub above : body_limit < number
    pub before : List Made
    pub rest : List Made
    pub cut : making.objects ≡ before ++ rest
    pub short : AreShort before
    pub first : ((more : List Made) × (rest ≡ object ∷ more)) ⊎ ((last : Made) × (rest ≡ last ∷ []))

  -- Why a command is refused: the fault is what is missing, or else the length of a body above the limit. Of want of
  -- memory nothing is said.
  abbrev pub ExplainsFeed : Result Making Missing → FeedFault → Type 0
  ExplainsFeed found (BadStream at why) = found ≡ Err (record { at = at; why = why })
  ExplainsFeed found (Limit which number) = (which ≡ Body) × IsTooLong found number
  ExplainsFeed found Memory = Unit {0}
