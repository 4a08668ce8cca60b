-- What the readers' faults say of an input.
use Rattle.std.proofs.Common.{◌≡◌, ℕ, Some, None, Option, List, Result, Ok, Err, refl, sym, ap, ◌∙◌, subst}
use Rattle.std.specs.Prelude.{IfSome, IfOk, IfErr}
use Rattle.std.specs.List.{AllByRecursion}
use Rattle.swh_base.specs.declared.kind.Kind.{Kind}
use Rattle.swh_base.specs.declared.entry.Entry.{Entry}
use Rattle.swh_base.specs.declared.memory.Memory.{Memory}
use Rattle.swh_base.specs.declared.visit.VisitKind.TheVariants.{Fast, Dir, Batch}
use Rattle.swh_outside.specs.Faults.{Rose}
use Rattle.swh_outside.specs.Folder.{Tree}
use Rattle.swh_outside.specs.Views.{Sources}
use Rattle.swh_object.specs.Object.{IsObject}
use Rattle.swh_dedup.specs.Making.{made}
use Rattle.swh_dedup.specs.Whole.{HasAllThatIsReached}
use Rattle.swh_dedup.specs.declared.objects.Objects.{Objects}
use Rattle.swh_fastload.specs.Input.{Means}
use Rattle.swh_fastload.specs.Loaded.{making_of}
use Rattle.swh_fastload.specs.Sourced.{ExplainsSource}
use Rattle.swh_fastload.specs.declared.bad.BadStream.TheVariants as stream
use Rattle.swh_fastload.specs.declared.bad.InputFault.{InputFault as StreamFault}
use Rattle.swh_fastload.specs.declared.bad.InputFault.TheVariants as of_stream
use Rattle.swh_dirload.specs.May.{MayRefuse}
use Rattle.swh_dirload.specs.Meaning.{MeansFolder, ExplainsFolder}
use Rattle.swh_dirload.specs.declared.fault.DirFault.{DirFault}
use Rattle.swh_dirload.specs.declared.fault.DirFault.TheVariants as of_folder
use Rattle.swh_batchread.specs.Batch.{MeansObjects}
use Rattle.swh_batchread.specs.Failing.{Fails}
use Rattle.swh_batchread.specs.Refs.{MeansRefs}
use Rattle.swh_batchread.specs.declared.fault.BatchFault.{BatchFault}
use Rattle.swh_batchread.specs.declared.fault.BatchFault.TheVariants as of_batch
use Rattle.swh_ingest.specs.Parts.{IsWhole}
use Rattle.swh_ingest.specs.declared.parts.Next.{Next}
use Rattle.swh_ingest.specs.declared.parts.Next.TheVariants as next
use Rattle.swh_inputs.specs.declared.bad.InputFault.{InputFault}
use Rattle.swh_inputs.specs.declared.bad.InputFault.TheVariants.{ReadFault}
use Rattle.swh_inputs.specs.Input.{listing_text, BreaksBoth, MayBreakBoth, MeansInput, BreaksInput, MayBreakInput}
use Rattle.swh_inputs.specs.Input.InputText.{StreamText, FolderText, BatchText}
use Rattle.swh_inputs.specs.Reading.{GivesSo, IsReadFault, IsTold, told_of_stream, told_of_folder, told_of_batch}

module _ {N : Type 0} (id : Kind → List ℕ → List ℕ) where
  -- an input that gives nothing
  abbrev bad_of : InputFault → Next N InputFault
  bad_of fault = next.Bad fault

  -- what is told holds of what is given
  pub told_so : {E : Type 0} (r : Result (Next N InputFault) E) (told : Option InputFault) (P : Next N InputFault → Type 0) → IfOk r (IsTold told) → IfSome told (λ fault. P (bad_of fault)) → IfOk r P
  told_so (Ok read) told P (fault, is, same) h =
      let there : P (bad_of fault) = subst (λ (x : Option InputFault). IfSome x (λ f. P (bad_of f))) is h in
      subst P (sym same) there
  told_so (Err e) told P is h = tt

  pub told_whole : {E : Type 0} (r : Result (Next N InputFault) E) (told : Option InputFault) → IfOk r (IsTold told) → IfOk r (IsWhole id)
  told_whole (Ok read) told (fault, is, same) = subst (IsWhole id) (sym same) tt
  told_whole (Err e) told is = tt

-- A failure that a reader tells is told.
heard : {N : Type 0} (r : Result (Next N InputFault) Memory) (told : Option InputFault) → IfOk r (IsTold told) → IfErr r (λ _. told ≡ None) → told ≡ Some ReadFault → IsReadFault r
heard (Ok read) told (fault, is, same) none e =
    let failed : fault ≡ ReadFault = cc in
    ap Ok (same ∙ ap (λ (f : InputFault). next.Bad f) failed)
heard (Err m) told is none e = let no : None ≡ Some ReadFault = sym none ∙ e in absurd cc

-- so a stream's is
pub stream_heard : {N : Type 0} (r : Result (Next N InputFault) Memory) (fault : StreamFault) → IfOk r (IsTold (told_of_stream fault)) → IfErr r (λ _. told_of_stream fault ≡ None) → fault ≡ of_stream.ReadFault → IsReadFault r
stream_heard r fault told none e = heard r (told_of_stream fault) told none (ap told_of_stream e)

-- and a folder's
pub folder_heard : {N : Type 0} (r : Result (Next N InputFault) Memory) (fault : DirFault) → IfOk r (IsTold (told_of_folder fault)) → IfErr r (λ _. told_of_folder fault ≡ None) → fault ≡ of_folder.ReadFault → IsReadFault r
folder_heard r fault told none e = heard r (told_of_folder fault) told none (ap told_of_folder e)

-- and that of a batch or its refs
pub batch_heard : {N : Type 0} (r : Result (Next N InputFault) Memory) (fault : BatchFault) → IfOk r (IsTold (told_of_batch fault)) → IfErr r (λ _. told_of_batch fault ≡ None) → fault ≡ of_batch.ReadFault → IsReadFault r
batch_heard r fault told none e = heard r (told_of_batch fault) told none (ap told_of_batch e)

module _ (N : Type 0) (id : Kind → List ℕ → List ℕ) where
  -- a stream's
  pub stream_gives : {S : Type 0} (head : Option (List ℕ)) (sources : Sources S) (s now : S) (fault : StreamFault) → ExplainsSource id head sources s now fault
      → IfSome (told_of_stream fault) (λ told. GivesSo id Fast sources.tells (Some (StreamText head (sources.left s))) (Rose (sources.faults s) (sources.faults now)) (bad_of {N = N} id told))
  unfolding BreaksInput MayBreakInput
  stream_gives head sources s now (of_stream.Bad (stream.Stream at why)) h = record { may = h.may; breaks = h.breaks }
  stream_gives head sources s now (of_stream.Bad (stream.Limit which number)) h = record { may = h.may; breaks = h.breaks }
  stream_gives head sources s now of_stream.ReadFault h = h
  stream_gives head sources s now of_stream.Memory h = tt

  -- a folder's
  pub folder_gives : (tells : Type 0) (tree : Tree) (listing : Option (List ℕ)) (rose : Type 0) (fault : DirFault) → MayRefuse fault → (tells → ExplainsFolder id tree (listing_text listing) fault) → (fault ≡ of_folder.ReadFault → rose)
      → IfSome (told_of_folder fault) (λ told. GivesSo id Dir tells (Some (FolderText tree listing)) rose (bad_of {N = N} id told))
  unfolding BreaksInput MayBreakInput
  folder_gives tells tree listing rose (of_folder.OtherKind path) may h cause = record { may = may; breaks = h }
  folder_gives tells tree listing rose (of_folder.BadModes line) may h cause = record { may = may; breaks = h }
  folder_gives tells tree listing rose (of_folder.Limit which number) may h cause = record { may = may; breaks = h }
  folder_gives tells tree listing rose of_folder.ReadFault may h cause = cause refl
  folder_gives tells tree listing rose of_folder.Memory may h cause = tt

  -- those of a batch, or of its refs
  pub pair_gives : (tells : Type 0) (text refs : List ℕ) (May Breaks : BatchFault → Type 0) (old now : ℕ) (rose : Type 0) (fault : BatchFault)
      → (May fault → MayBreakBoth fault) → (tells → Breaks fault → BreaksBoth id text refs fault) → (Rose old now → rose) → Fails tells May Breaks old now fault
      → IfSome (told_of_batch fault) (λ told. GivesSo id Batch tells (Some (BatchText text refs)) rose (bad_of {N = N} id told))
  unfolding BreaksInput MayBreakInput
  pair_gives tells text refs May Breaks old now rose (of_batch.BadBatch at) may breaks rises h = record { may = may h.possible; breaks = λ t. breaks t (h.told t) }
  pair_gives tells text refs May Breaks old now rose (of_batch.WrongName given got) may breaks rises h = record { may = may h.possible; breaks = λ t. breaks t (h.told t) }
  pair_gives tells text refs May Breaks old now rose (of_batch.BadRefs line) may breaks rises h = record { may = may h.possible; breaks = λ t. breaks t (h.told t) }
  pair_gives tells text refs May Breaks old now rose (of_batch.NoObject lacking) may breaks rises h = record { may = may h.possible; breaks = λ t. breaks t (h.told t) }
  pair_gives tells text refs May Breaks old now rose (of_batch.Limit which number) may breaks rises h = record { may = may h.possible; breaks = λ t. breaks t (h.told t) }
  pair_gives tells text refs May Breaks old now rose of_batch.ReadFault may breaks rises h = rises h
  pair_gives tells text refs May Breaks old now rose of_batch.Memory may breaks rises h = tt

module _ {N : Type 0} (id : Kind → List ℕ → List ℕ) where
  -- a folder that means something
  pub folder_means : (tree : Tree) (listing : Option (List ℕ)) (loaded : Objects N) → MeansFolder id tree (listing_text listing) loaded.objects.items loaded.snapshot → MeansInput id (FolderText tree listing) (making_of loaded)
  unfolding MeansInput
  folder_means tree listing loaded h = record { objects = loaded.objects.items; means = h; are = refl }

  -- a batch that does, with its refs
  pub pair_means : (text refs : List ℕ) (objects : List Entry) (loaded : Objects N) → MeansObjects id text (made objects) → AllByRecursion (IsObject id) objects
      → MeansRefs refs objects loaded.objects.items loaded.snapshot → HasAllThatIsReached id loaded → MeansInput id (BatchText text refs) (making_of loaded)
  unfolding MeansInput
  pair_means text refs objects loaded b each r whole = record {
    objects = objects;
    of_batch = record { means = b; each = each };
    all = loaded.objects.items;
    means = r;
    each = whole.objects.each;
    are = refl;
  }

  -- a stream that does
  pub stream_means : (head : Option (List ℕ)) (text : List ℕ) (loaded : Objects N) → Means id head text (making_of loaded) → MeansInput id (StreamText head text) (making_of loaded)
  unfolding MeansInput
  stream_means head text loaded h = h
