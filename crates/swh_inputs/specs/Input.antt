-- What an input of any kind means, and how it breaks: all that a loader and a program know of inputs. `id` gives the id of a
-- kind and a body.
use Rattle.std.specs.Prelude.{◌≡◌, ◌⊎◌, ℕ, Option, Some, None, List, []}
use Rattle.std.specs.List.{AllByRecursion}
use Rattle.swh_base.specs.declared.kind.Kind.{Kind}
use Rattle.swh_base.specs.declared.entry.Entry.{Entry}
use Rattle.swh_base.specs.declared.visit.VisitKind.{VisitKind}
use Rattle.swh_base.specs.declared.visit.VisitKind.TheVariants.{Fast, Dir, Batch}
use Rattle.swh_outside.specs.Folder.{Tree}
use Rattle.swh_model.specs.Meaning.{StreamMeaning}
use Rattle.swh_object.specs.Object.{IsObject}
use Rattle.swh_dedup.specs.Making.{made}
use Rattle.swh_fastload.specs.Input.{Means, Breaks, MayBreak}
use Rattle.swh_fastload.specs.declared.bad.BadStream.TheVariants as stream
use Rattle.swh_dirload.specs.Meaning.{MeansFolder, BreaksFolder}
use Rattle.swh_dirload.specs.May.{MayRefuse}
use Rattle.swh_dirload.specs.declared.fault.DirFault.TheVariants as folder
use Rattle.swh_batchread.specs.Batch.{MeansObjects}
use Rattle.swh_batchread.specs.BatchFault.{BreaksBatch, MayBreakBatch}
use Rattle.swh_batchread.specs.Refs.{MeansRefs}
use Rattle.swh_batchread.specs.RefsFault.{BreaksRefs, MayBreakRefs}
use Rattle.swh_batchread.specs.declared.fault.BatchFault.{BatchFault}
use Rattle.swh_batchread.specs.declared.fault.BatchFault.TheVariants as batch
use Rattle.swh_inputs.specs.declared.bad.BadText.{BadText}
use Rattle.swh_inputs.specs.declared.bad.BadText.TheVariants as bad

-- What an input holds: a stream, beside the head that is named for it; what stands in a folder, with the listing of modes that
-- may stand beside it; or a batch of objects and its refs.
pub data InputText : Type 0 where
  StreamText : Option (List ℕ) → List ℕ → InputText
  FolderText : Tree → Option (List ℕ) → InputText
  BatchText : List ℕ → List ℕ → InputText

-- the text of a listing: one that is not there has no lines
abbrev pub listing_text : Option (List ℕ) → List ℕ
listing_text None = []
listing_text (Some text) = text

module _ (id : Kind → List ℕ → List ℕ) where
  -- The folder with its listing means these objects, and this snapshot.
  pub record MeansTree (tree : Tree) (listing : Option (List ℕ)) (meaning : StreamMeaning) : Type 0 where
    pub objects : List Entry
    pub means : MeansFolder id tree (listing_text listing) objects meaning.snapshot
    pub are : meaning.objects ≡ made objects

  -- These are the objects of a batch.
  pub record AreOfBatch (text : List ℕ) (objects : List Entry) : Type 0 where
    pub means : MeansObjects id text (made objects)
    pub each : AllByRecursion (IsObject id) objects

  -- The batch with its refs means these objects, and this snapshot, which is the last of them.
  pub record MeansBatch (text refs : List ℕ) (meaning : StreamMeaning) : Type 0 where
    pub objects : List Entry
    pub of_batch : AreOfBatch text objects
    pub all : List Entry
    pub means : MeansRefs refs objects all meaning.snapshot
    pub each : AllByRecursion (IsObject id) all
    pub are : meaning.objects ≡ made all

  -- The batch breaks so, or its refs do behind the objects of a whole batch.
  abbrev pub BreaksBoth : List ℕ → List ℕ → BatchFault → Type 0
  BreaksBoth text refs fault = BreaksBatch id text fault ⊎ ((objects : List Entry) × AreOfBatch text objects × BreaksRefs refs objects fault)

  -- How a stream breaks.
  abbrev pub BreaksStream : Option (List ℕ) → List ℕ → BadText → Type 0
  BreaksStream head text (bad.Stream at why) = Breaks id head text (stream.Stream at why)
  BreaksStream head text (bad.Limit which number) = Breaks id head text (stream.Limit which number)
  BreaksStream head text _ = ⊥

  -- How a folder with its listing breaks.
  abbrev pub BreaksTree : Tree → Option (List ℕ) → BadText → Type 0
  BreaksTree tree listing (bad.Other path) = BreaksFolder id tree (listing_text listing) (folder.OtherKind path)
  BreaksTree tree listing (bad.Modes line) = BreaksFolder id tree (listing_text listing) (folder.BadModes line)
  BreaksTree tree listing (bad.Limit which number) = BreaksFolder id tree (listing_text listing) (folder.Limit which number)
  BreaksTree tree listing _ = ⊥

  -- How a batch with its refs breaks.
  abbrev pub BreaksPair : List ℕ → List ℕ → BadText → Type 0
  BreaksPair text refs (bad.Batch at) = BreaksBoth text refs (batch.BadBatch at)
  BreaksPair text refs (bad.Name given got) = BreaksBoth text refs (batch.WrongName given got)
  BreaksPair text refs (bad.Refs line) = BreaksBoth text refs (batch.BadRefs line)
  BreaksPair text refs (bad.NoObject lacking) = BreaksBoth text refs (batch.NoObject lacking)
  BreaksPair text refs (bad.Limit which number) = BreaksBoth text refs (batch.Limit which number)
  BreaksPair text refs _ = ⊥

-- The input means this, by a namer's ids.
unfoldable pub MeansInput : (Kind → List ℕ → List ℕ) → InputText → StreamMeaning → Type 0
MeansInput id (StreamText head text) meaning = Means id head text meaning
MeansInput id (FolderText tree listing) meaning = MeansTree id tree listing meaning
MeansInput id (BatchText objects refs) meaning = MeansBatch id objects refs meaning

-- The input breaks in this way: by its first fault, or by the first limit that it passes.
unfoldable pub BreaksInput : (Kind → List ℕ → List ℕ) → InputText → BadText → Type 0
BreaksInput id (StreamText head text) bad = BreaksStream id head text bad
BreaksInput id (FolderText tree listing) bad = BreaksTree id tree listing bad
BreaksInput id (BatchText objects refs) bad = BreaksPair id objects refs bad

-- Some stream may break so.
abbrev pub MayBreakStream : BadText → Type 0
MayBreakStream (bad.Stream at why) = MayBreak (stream.Stream at why)
MayBreakStream (bad.Limit which number) = MayBreak (stream.Limit which number)
MayBreakStream _ = ⊥

-- Some folder with its listing may break so.
abbrev pub MayBreakTree : BadText → Type 0
MayBreakTree (bad.Other path) = MayRefuse (folder.OtherKind path)
MayBreakTree (bad.Modes line) = MayRefuse (folder.BadModes line)
MayBreakTree (bad.Limit which number) = MayRefuse (folder.Limit which number)
MayBreakTree _ = ⊥

-- Some batch may break so, or some refs of it.
abbrev pub MayBreakBoth : BatchFault → Type 0
MayBreakBoth fault = MayBreakBatch fault ⊎ ((objects : List Entry) × MayBreakRefs objects fault)

abbrev pub MayBreakPair : BadText → Type 0
MayBreakPair (bad.Batch at) = MayBreakBoth (batch.BadBatch at)
MayBreakPair (bad.Name given got) = MayBreakBoth (batch.WrongName given got)
MayBreakPair (bad.Refs line) = MayBreakBoth (batch.BadRefs line)
MayBreakPair (bad.NoObject lacking) = MayBreakBoth (batch.NoObject lacking)
MayBreakPair (bad.Limit which number) = MayBreakBoth (batch.Limit which number)
MayBreakPair _ = ⊥

-- Some input of this kind may break so, whatever its parts tell.
unfoldable pub MayBreakInput : VisitKind → BadText → Type 0
MayBreakInput Fast bad = MayBreakStream bad
MayBreakInput Dir bad = MayBreakTree bad
MayBreakInput Batch bad = MayBreakPair bad

-- Two ways in which one input breaks are one, but for limits of a stream.
abbrev pub IsOneBreak : InputText → BadText → BadText → Type 0
IsOneBreak (StreamText head text) (bad.Limit which number) (bad.Limit other count) = Unit {0}
IsOneBreak text broken other = broken ≡ other
