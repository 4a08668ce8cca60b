-- A batch with its refs of which some parts were given, and what it may have given where its reading stopped.
use Rattle.std.specs.Prelude.{◌≡◌, ◌⊎◌, ℕ, ◌≤◌, List, [], ◌++◌, map}
use Rattle.std.specs.List.{AllByRecursion}
use Rattle.swh_base.specs.declared.entry.Entry.{Entry}
use Rattle.swh_base.specs.declared.kind.Kind.{Kind}
use Rattle.swh_outside.specs.Views.{Sources}
use Rattle.swh_model.specs.Meaning.{Made}
use Rattle.swh_object.specs.Object.{IsObject}
use Rattle.swh_fastlex.specs.Line.{Held}
use Rattle.swh_dedup.specs.Making.{made}
use Rattle.swh_dedup.specs.declared.objects.Objects.{Objects}
use Rattle.swh_batchread.specs.declared.fault.BatchFault.{BatchFault}
use Rattle.swh_batchread.specs.declared.fault.BatchFault.TheVariants.{ReadFault}
use Rattle.swh_batchread.specs.declared.giving.BatchPart.{BatchPart}
use Rattle.swh_batchread.specs.declared.giving.BatchPart.TheVariants.{More, Last}
use Rattle.swh_batchread.specs.Batch.{Given, KeepsFirst, MeansObjects, input_limit}
use Rattle.swh_batchread.specs.BatchFault.{ExplainsBatch, Reaches}
use Rattle.swh_batchread.specs.Parts.{HasRead, Keeps}
use Rattle.swh_batchread.specs.Refs.{MeansRefs}
use Rattle.swh_batchread.specs.RefsFault.{ExplainsRefs}
use Rattle.swh_batchread.specs.RefSteps.{IsWholeWith, Knowing, KnowsObjects}

-- The text begins with good objects, of which these are kept: each kind and body once.
pub record GivesFirst (id : Kind → List ℕ → List ℕ) (text : List ℕ) (objects : List Made) : Type 0 where
  pub given : List Given
  pub at : ℕ
  pub rest : List ℕ
  pub reaches : Reaches id text given at rest
  pub kept : KeepsFirst [] (map (λ g. g.made) given) objects

-- where the reader of a batch stands, which kinds and bodies it keeps, and what it knows of their objects
pub record BatchState : Type 0 where
  pub held : Held
  pub kept : List Made
  pub known : Knowing

module _ (id : Kind → List ℕ → List ℕ) where
  -- These objects were given. Their kinds and bodies are kept, and their names and children known.
  pub record HasGiven (given : List Entry) (kept : List Made) (known : Knowing) : Type 0 where
    pub kept_are : made given ≡ kept
    pub each : AllByRecursion (IsObject id) given
    pub known_are : KnowsObjects given known

  -- Behind these objects an object of this kind and body is given, or nothing where one was given.
  pub record IsPart (given : List Entry) (m : Made) (part : List Entry) (kept : List Made) (known : Knowing) : Type 0 where
    pub keeps : Keeps (made given) m (made (given ++ part))
    pub has : HasGiven (given ++ part) kept known

  -- Nothing was read.
  pub record IsAtStart (s : BatchState) : Type 0 where
    pub empty : s.held.bytes ≡ []
    pub first : s.held.place ≡ 0
    pub are : HasGiven [] s.kept s.known

module _ {S : Type 0} (id : Kind → List ℕ → List ℕ) (sources : Sources S) (source refs : S) where
  -- The batch, which stands at `source` at first and at `now` now, has given these objects so far, and of its refs nothing was read.
  pub record GoesOn (given : List Entry) (s : BatchState) (now others : S) : Type 0 where
    pub are : HasGiven id given s.kept s.known
    pub place : s.held.place ≤ input_limit
    pub read : sources.tells → HasRead id (sources.left source) s.held (sources.left now) (made given)
    pub same_path : sources.path now ≡ sources.path source
    pub quiet : sources.faults now ≡ sources.faults source
    pub same_refs : others ≡ refs

  -- These are all objects of the batch.
  pub record AreAllOf (given : List Entry) : Type 0 where
    pub means : sources.tells → MeansObjects id (sources.left source) (made given)
    pub each : AllByRecursion (IsObject id) given

  -- The batch ended, and so did its refs: with the snapshot all that they mean was given.
  pub record EndsBatch {N : Type 0} (given : List Entry) (now others : S) (last : Objects N) : Type 0 where
    pub all : AreAllOf given
    pub means : sources.tells → MeansRefs (sources.left refs) given (given ++ last.objects.items) last.snapshot
    pub whole : IsWholeWith id (given ++ last.objects.items) last.snapshot
    pub read : sources.tells → sources.left now ≡ []
    pub read_refs : sources.tells → sources.left others ≡ []
    pub same_path : sources.path now ≡ sources.path source
    pub same_refs_path : sources.path others ≡ sources.path refs
    pub quiet : sources.faults now ≡ sources.faults source
    pub quiet_refs : sources.faults others ≡ sources.faults refs

  -- What comes after these objects.
  abbrev pub GivesNext : {N : Type 0} → List Entry → BatchState → S → S → BatchPart N → Type 0
  GivesNext given s now others (More objects) = GoesOn (given ++ objects.items) s now others
  GivesNext given s now others (Last last) = EndsBatch given now others last

  -- The batch breaks, and of its refs nothing was read. Only where it is told that the source failed did its count of faults rise.
  pub record BreaksInBatch (now others : S) (fault : BatchFault) : Type 0 where
    pub explains : ExplainsBatch id sources source now fault
    pub same_refs : others ≡ refs
    pub quiet : (fault ≡ ReadFault → ⊥) → sources.faults now ≡ sources.faults source

  -- The batch is whole, and its refs break. Only where it is told that their source failed did its count of faults rise.
  pub record BreaksInRefs (given : List Entry) (now others : S) (fault : BatchFault) : Type 0 where
    pub all : AreAllOf given
    pub explains : ExplainsRefs sources refs given others fault
    pub quiet : sources.faults now ≡ sources.faults source
    pub quiet_refs : (fault ≡ ReadFault → ⊥) → sources.faults others ≡ sources.faults refs

  -- Why nothing comes after these objects.
  abbrev pub BreaksOff : List Entry → S → S → BatchFault → Type 0
  BreaksOff given now others fault = BreaksInBatch now others fault ⊎ BreaksInRefs given now others fault

-- Where the batch goes on, this holds.
abbrev pub IfMore : {N : Type 0} → BatchPart N → Type 0 → Type 0
IfMore (More objects) P = P
IfMore (Last last) P = Unit {0}
