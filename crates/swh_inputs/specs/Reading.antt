-- What a reading of an input gives.
use Rattle.std.specs.Prelude.{◌≡◌, ℕ, Option, Some, None, Result, Ok, List, IfSome}
use Rattle.swh_base.specs.declared.kind.Kind.{Kind}
use Rattle.swh_base.specs.declared.memory.Memory.{Memory}
use Rattle.swh_base.specs.declared.visit.VisitKind.{VisitKind}
use Rattle.swh_fastload.specs.Loaded.{making_of}
use Rattle.swh_fastload.specs.declared.bad.BadStream.TheVariants as stream
use Rattle.swh_fastload.specs.declared.bad.InputFault.{InputFault as StreamFault}
use Rattle.swh_fastload.specs.declared.bad.InputFault.TheVariants as of_stream
use Rattle.swh_dirload.specs.declared.fault.DirFault.{DirFault}
use Rattle.swh_dirload.specs.declared.fault.DirFault.TheVariants as of_folder
use Rattle.swh_batchread.specs.declared.fault.BatchFault.{BatchFault}
use Rattle.swh_batchread.specs.declared.fault.BatchFault.TheVariants as of_batch
use Rattle.swh_ingest.specs.declared.input.Opening.TheVariants.{Found}
use Rattle.swh_ingest.specs.declared.parts.Next.{Next}
use Rattle.swh_ingest.specs.declared.parts.Next.TheVariants as next
use Rattle.swh_inputs.specs.Input.{InputText, MeansInput, BreaksInput, MayBreakInput}
use Rattle.swh_inputs.specs.Opening.{kind_of, opening_of}
use Rattle.swh_inputs.specs.Parts.{Parts, TellAll, text_of, HasFailed, HasGoodHead}
use Rattle.swh_inputs.specs.declared.bad.BadText.{BadText}
use Rattle.swh_inputs.specs.declared.bad.BadText.TheVariants.{Stream, Batch, Name, Refs, NoObject, Other, Modes, Limit}
use Rattle.swh_inputs.specs.declared.bad.InputFault.{InputFault}
use Rattle.swh_inputs.specs.declared.bad.InputFault.TheVariants.{Bad, ReadFault}
use Rattle.swh_inputs.specs.declared.input.Input.{Input}

module _ (id : Kind → List ℕ → List ℕ) (kind : VisitKind) (tells : Type 0) (text : Option InputText) where
  -- Some input of this kind may break so; and where the parts tell what they hold, this text does.
  pub record BreaksSo (bad : BadText) : Type 0 where
    pub may : MayBreakInput kind bad
    pub breaks : tells → IfSome text (λ held. BreaksInput id held bad)

  -- All that was made is what this text means; or it breaks, or a count of faults rose.
  abbrev pub GivesSo : {N : Type 0} → Type 0 → Next N InputFault → Type 0
  GivesSo rose (next.Part objects) = ⊥
  GivesSo rose (next.Last made) = tells → IfSome text (λ held. MeansInput id held (making_of made))
  GivesSo rose (next.Bad (Bad bad)) = BreaksSo bad
  GivesSo rose (next.Bad ReadFault) = rose

module _ {S F : Type 0} (id : Kind → List ℕ → List ℕ) (p : Parts S F) (i : Input S F) where
  -- Some input of this kind may break so; and where all parts are found and tell what they hold, that does.
  abbrev pub BreaksLeft : BadText → Type 0
  BreaksLeft bad = BreaksSo id (kind_of i) (TellAll p i) (text_of p i) bad

  -- All that was made of the input, which is left as `now`, is what its parts mean, where they tell that; or it breaks so, or a
  -- count of faults of its parts rose.
  abbrev pub IsRead : {N : Type 0} → Input S F → Next N InputFault → Type 0
  IsRead now read = GivesSo id (kind_of i) (TellAll p i) (text_of p i) (HasFailed p i now) read

-- The input may be read: all of its parts were found, and a head that is named for it is a ref.
abbrev pub MayBeRead : {S F : Type 0} → Input S F → Type 0
MayBeRead i = (opening_of i ≡ Found) × HasGoodHead i

-- It is told that a part of the input failed.
abbrev pub IsReadFault : {N : Type 0} → Result (Next N InputFault) Memory → Type 0
IsReadFault found = found ≡ Ok (next.Bad ReadFault)

-- What is given is why there is nothing, where that is told.
abbrev pub IsTold : {N : Type 0} → Option InputFault → Next N InputFault → Type 0
IsTold told read = (fault : InputFault) × (told ≡ Some fault) × (read ≡ next.Bad fault)

-- what is told of a stream's faults; of want of memory nothing
abbrev pub told_of_stream : StreamFault → Option InputFault
told_of_stream (of_stream.Bad (stream.Stream at why)) = Some (Bad (Stream at why))
told_of_stream (of_stream.Bad (stream.Limit which number)) = Some (Bad (Limit which number))
told_of_stream of_stream.ReadFault = Some ReadFault
told_of_stream of_stream.Memory = None

-- what is told of a folder's faults
abbrev pub told_of_folder : DirFault → Option InputFault
told_of_folder (of_folder.OtherKind path) = Some (Bad (Other path))
told_of_folder (of_folder.BadModes line) = Some (Bad (Modes line))
told_of_folder (of_folder.Limit which number) = Some (Bad (Limit which number))
told_of_folder of_folder.ReadFault = Some ReadFault
told_of_folder of_folder.Memory = None

-- what is told of the faults of a batch and its refs
abbrev pub told_of_batch : BatchFault → Option InputFault
told_of_batch (of_batch.BadBatch at) = Some (Bad (Batch at))
told_of_batch (of_batch.WrongName wanted got) = Some (Bad (Name wanted got))
told_of_batch (of_batch.BadRefs line) = Some (Bad (Refs line))
told_of_batch (of_batch.NoObject lacking) = Some (Bad (NoObject lacking))
told_of_batch (of_batch.Limit which number) = Some (Bad (Limit which number))
told_of_batch of_batch.ReadFault = Some ReadFault
told_of_batch of_batch.Memory = None
