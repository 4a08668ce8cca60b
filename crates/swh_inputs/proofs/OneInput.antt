-- An input means one thing, or breaks in one way, and never both.
use Rattle.std.proofs.Common.{◌≡◌, ℕ, inl, inr, List, [], ◌∷◌, ◌++◌, Contains, Option, refl, sym, ap, ◌∙◌, subst}
use Rattle.std.proofs.lemmas.List.{append_cancel_left}
use Rattle.std.specs.List.{AllByRecursion}
use Rattle.swh_base.specs.declared.kind.Kind.{Kind}
use Rattle.swh_base.specs.declared.name.Name.{Name}
use Rattle.swh_base.specs.declared.entry.Entry.{Entry}
use Rattle.swh_base.specs.Manifest.{AreChildren}
use Rattle.swh_base.proofs.Children.{one_list}
use Rattle.swh_outside.specs.Folder.{Tree}
use Rattle.swh_model.specs.Meaning.{Made, StreamMeaning}
use Rattle.swh_object.specs.Object.{IsObject}
use Rattle.swh_dedup.specs.Making.{made, made_from}
use Rattle.swh_fastload.specs.declared.bad.BadStream.TheVariants as stream
use Rattle.swh_fastload.specs.Input.{IsSameMaking, Means}
use Rattle.swh_fastload.proofs.InputLaws as streams
use Rattle.swh_fastload.proofs.BreakLaws as stream_breaks
use Rattle.swh_dirload.specs.Meaning.{BreaksFolder}
use Rattle.swh_dirload.specs.declared.fault.DirFault.{DirFault}
use Rattle.swh_dirload.specs.declared.fault.DirFault.TheVariants as folder
use Rattle.swh_dirload.proofs.OneFolder as folders
use Rattle.swh_batchread.specs.Refs.{MeansRefs}
use Rattle.swh_batchread.specs.RefsFault.{BreaksRefs}
use Rattle.swh_batchread.specs.declared.fault.BatchFault.{BatchFault}
use Rattle.swh_batchread.specs.declared.fault.BatchFault.TheVariants as batch
use Rattle.swh_batchread.proofs.Unique as batches
use Rattle.swh_batchread.proofs.UniqueRefs.{refs_mean_one, refs_break_once, refs_never_both}
use Rattle.swh_inputs.specs.declared.bad.BadText.{BadText}
use Rattle.swh_inputs.specs.declared.bad.BadText.TheVariants as bad
use Rattle.swh_inputs.specs.Input.{InputText, listing_text, AreOfBatch, MeansTree, MeansBatch, BreaksBoth, BreaksStream, BreaksTree, BreaksPair, MeansInput, BreaksInput, IsOneBreak}
use Rattle.swh_inputs.specs.Input.InputText.{StreamText, FolderText, BatchText}

-- ## Objects of one kind and body

abbrev entry_of : Kind → List ℕ → List ℕ → List Name → Entry
entry_of kind id body kids = record { name = record { kind = kind; id = id }; body = body; kids = kids }

module _ (id : Kind → List ℕ → List ℕ) where
  same_entry : (e f : Entry) → IsObject id e → IsObject id f → made_from e ≡ made_from f → e ≡ f
  same_entry e f x y is =
      let k : e.name.kind ≡ f.name.kind = ap (λ (m : Made). m.kind) is in
      let b : e.body ≡ f.body = ap (λ (m : Made). m.body) is in
      let i : e.name.id ≡ f.name.id = x.named ∙ ap (λ (m : Made). id m.kind m.body) is ∙ sym y.named in
      let c : e.kids ≡ f.kids = one_list f.name.kind f.body e.kids f.kids (subst (λ (m : Made). AreChildren m.kind m.body e.kids) is x.kids) y.kids in
      ap (λ (q : Kind). entry_of q e.name.id e.body e.kids) k ∙ ap (λ (q : List ℕ). entry_of f.name.kind q e.body e.kids) i
      ∙ ap (λ (q : List ℕ). entry_of f.name.kind f.name.id q e.kids) b ∙ ap (entry_of f.name.kind f.name.id f.body) c

  pub same_entries : (es fs : List Entry) → AllByRecursion (IsObject id) es → AllByRecursion (IsObject id) fs → made es ≡ made fs → es ≡ fs
  same_entries [] [] x y is = refl
  same_entries [] (f ∷ fs) x y is = absurd cc
  same_entries (e ∷ es) [] x y is = absurd cc
  same_entries (e ∷ es) (f ∷ fs) x y is =
      let first : made_from e ≡ made_from f = cc in
      let rest : made es ≡ made fs = cc in
      let one = same_entry e f x.0 y.0 first in
      let more = same_entries es fs x.1 y.1 rest in
      ap (λ (q : Entry). q ∷ es) one ∙ ap (λ (qs : List Entry). f ∷ qs) more

  -- ## A batch with its refs

  same_batch : (text : List ℕ) (objects others : List Entry) → AreOfBatch id text objects → AreOfBatch id text others → objects ≡ others
  same_batch text objects others x y = same_entries objects others x.each y.each (batches.one_meaning id text (made objects) (made others) x.means y.means)

  same_last : (objects : List Entry) (e f : Entry) → objects ++ e ∷ [] ≡ objects ++ f ∷ [] → e ≡ f
  same_last objects e f is = let last : e ∷ [] ≡ f ∷ [] = append_cancel_left objects (e ∷ []) (f ∷ []) is in cc

  one_pair : (text refs : List ℕ) (m n : StreamMeaning) → MeansBatch id text refs m → MeansBatch id text refs n → IsSameMaking m n
  one_pair text refs m n x y =
      let same = same_batch text x.objects y.objects x.of_batch y.of_batch in
      let other : MeansRefs refs x.objects y.all n.snapshot = subst (λ (os : List Entry). MeansRefs refs os y.all n.snapshot) (sym same) y.means in
      let all : made x.all ≡ made y.all = refs_mean_one refs x.objects x.all y.all m.snapshot n.snapshot x.means other in
      let g = x.means.gives in
      let h = other.gives in
      let last = same_last x.objects g.snapshot h.snapshot (sym g.objects_are ∙ same_entries x.all y.all x.each y.each all ∙ h.objects_are) in
      let objects : m.objects ≡ n.objects = x.are ∙ all ∙ sym y.are in
      record {
        objects = λ o. (subst (λ (os : List Made). Contains os o) objects, subst (λ (os : List Made). Contains os o) (sym objects));
        snapshot = g.id_is ∙ ap (λ (e : Entry). e.name.id) last ∙ sym h.id_is;
      }

  whole_pair : (text refs : List ℕ) (m : StreamMeaning) (fault : BatchFault) → MeansBatch id text refs m → BreaksBoth id text refs fault → ⊥
  whole_pair text refs m fault x (inl b) = batches.never_both id text (made x.objects) fault x.of_batch.means b
  whole_pair text refs m fault x (inr (objects, of_batch, b)) =
      let same = same_batch text objects x.objects of_batch x.of_batch in
      refs_never_both refs x.objects x.all m.snapshot fault x.means (subst (λ (os : List Entry). BreaksRefs refs os fault) same b)

  one_fault_of_both : (text refs : List ℕ) (f g : BatchFault) → BreaksBoth id text refs f → BreaksBoth id text refs g → f ≡ g
  one_fault_of_both text refs f g (inl a) (inl b) = batches.one_fault id text f g a b
  one_fault_of_both text refs f g (inl a) (inr (objects, of_batch, b)) = absurd (batches.never_both id text (made objects) f of_batch.means a)
  one_fault_of_both text refs f g (inr (objects, of_batch, a)) (inl b) = absurd (batches.never_both id text (made objects) g of_batch.means b)
  one_fault_of_both text refs f g (inr (objects, of_batch, a)) (inr (others, of_other, b)) =
      let same = same_batch text others objects of_other of_batch in
      refs_break_once refs objects f g a (subst (λ (os : List Entry). BreaksRefs refs os g) same b)

  -- ## A folder with its listing

  one_tree : (tree : Tree) (listing : Option (List ℕ)) (m n : StreamMeaning) → MeansTree id tree listing m → MeansTree id tree listing n → IsSameMaking m n
  one_tree tree listing m n x y =
      let same = folders.one_meaning id tree (listing_text listing) x.objects y.objects m.snapshot n.snapshot x.means y.means in
      record {
        objects = λ o. (λ h. subst (λ (os : List Made). Contains os o) (sym y.are) ((same.1 o).0 (subst (λ (os : List Made). Contains os o) x.are h)), λ h. subst (λ (os : List Made). Contains os o) (sym x.are) ((same.1 o).1 (subst (λ (os : List Made). Contains os o) y.are h)));
        snapshot = same.0;
      }

-- ## One meaning

pub one_making : (id : Kind → List ℕ → List ℕ) (text : InputText) (m n : StreamMeaning) → MeansInput id text m → MeansInput id text n → IsSameMaking m n
unfolding MeansInput
one_making id (StreamText head text) m n x y = streams.one_making id head text m n x y
one_making id (FolderText tree listing) m n x y = one_tree id tree listing m n x y
one_making id (BatchText text refs) m n x y = one_pair id text refs m n x y

-- ## A meaning, or a break

module _ (id : Kind → List ℕ → List ℕ) where
  -- how a folder breaks, by its reader's fault
  abbrev of_folder : DirFault → BadText
  of_folder (folder.OtherKind path) = bad.Other path
  of_folder (folder.BadModes line) = bad.Modes line
  of_folder (folder.Limit which number) = bad.Limit which number
  of_folder folder.ReadFault = bad.Modes 0
  of_folder folder.Memory = bad.Modes 0

  record BreaksAsFolder (tree : Tree) (listing : Option (List ℕ)) (broken : BadText) : Type 0 where
    pub fault : DirFault
    pub breaks : BreaksFolder id tree (listing_text listing) fault
    pub is : broken ≡ of_folder fault

  tree_breaks : (tree : Tree) (listing : Option (List ℕ)) (broken : BadText) → BreaksTree id tree listing broken → BreaksAsFolder tree listing broken
  tree_breaks tree listing (bad.Other path) b = record { fault = folder.OtherKind path; breaks = b; is = refl }
  tree_breaks tree listing (bad.Modes line) b = record { fault = folder.BadModes line; breaks = b; is = refl }
  tree_breaks tree listing (bad.Limit which number) b = record { fault = folder.Limit which number; breaks = b; is = refl }
  tree_breaks tree listing _ b = absurd b

  -- how a batch breaks, by its readers' fault
  abbrev of_batch : BatchFault → BadText
  of_batch (batch.BadBatch at) = bad.Batch at
  of_batch (batch.WrongName given got) = bad.Name given got
  of_batch (batch.BadRefs line) = bad.Refs line
  of_batch (batch.NoObject lacking) = bad.NoObject lacking
  of_batch (batch.Limit which number) = bad.Limit which number
  of_batch batch.ReadFault = bad.Refs 0
  of_batch batch.Memory = bad.Refs 0

  record BreaksAsBatch (text refs : List ℕ) (broken : BadText) : Type 0 where
    pub fault : BatchFault
    pub breaks : BreaksBoth id text refs fault
    pub is : broken ≡ of_batch fault

  pair_breaks : (text refs : List ℕ) (broken : BadText) → BreaksPair id text refs broken → BreaksAsBatch text refs broken
  pair_breaks text refs (bad.Batch at) b = record { fault = batch.BadBatch at; breaks = b; is = refl }
  pair_breaks text refs (bad.Name given got) b = record { fault = batch.WrongName given got; breaks = b; is = refl }
  pair_breaks text refs (bad.Refs line) b = record { fault = batch.BadRefs line; breaks = b; is = refl }
  pair_breaks text refs (bad.NoObject lacking) b = record { fault = batch.NoObject lacking; breaks = b; is = refl }
  pair_breaks text refs (bad.Limit which number) b = record { fault = batch.Limit which number; breaks = b; is = refl }
  pair_breaks text refs _ b = absurd b

  whole_stream : (head : Option (List ℕ)) (text : List ℕ) (m : StreamMeaning) (broken : BadText) → Means id head text m → BreaksStream id head text broken → ⊥
  whole_stream head text m (bad.Stream at why) x b = streams.unbroken id head text m (stream.Stream at why) x b
  whole_stream head text m (bad.Limit which number) x b = streams.unbroken id head text m (stream.Limit which number) x b
  whole_stream head text m _ x b = b

  one_stream_break : (head : Option (List ℕ)) (text : List ℕ) (broken other : BadText) → BreaksStream id head text broken → BreaksStream id head text other → IsOneBreak (StreamText head text) broken other
  one_stream_break head text (bad.Stream at why) (bad.Stream place because) a b =
      let same = stream_breaks.one_fault id head text at place why because a b in
      let first = same.0 in
      let second = same.1 in
      cc
  one_stream_break head text (bad.Stream at why) (bad.Limit which number) a b = absurd (stream_breaks.one_kind id head text at why which number a b)
  one_stream_break head text (bad.Limit which number) (bad.Stream at why) a b = absurd (stream_breaks.one_kind id head text at why which number b a)
  one_stream_break head text (bad.Limit which number) (bad.Limit other count) a b = tt
  one_stream_break head text (bad.Stream at why) _ a b = absurd b
  one_stream_break head text (bad.Limit which number) _ a b = absurd b
  one_stream_break head text _ other a b = absurd a

pub unbroken : (id : Kind → List ℕ → List ℕ) (text : InputText) (m : StreamMeaning) (broken : BadText) → MeansInput id text m → BreaksInput id text broken → ⊥
unfolding MeansInput BreaksInput
unbroken id (StreamText head text) m broken x b = whole_stream id head text m broken x b
unbroken id (FolderText tree listing) m broken x b =
    let f = tree_breaks id tree listing broken b in
    folders.never_both id tree (listing_text listing) x.objects m.snapshot f.fault x.means f.breaks
unbroken id (BatchText text refs) m broken x b =
    let f = pair_breaks id text refs broken b in
    whole_pair id text refs m f.fault x f.breaks

-- ## One break

pub one_way : (id : Kind → List ℕ → List ℕ) (text : InputText) (broken other : BadText) → BreaksInput id text broken → BreaksInput id text other → IsOneBreak text broken other
unfolding BreaksInput
one_way id (StreamText head text) broken other a b = one_stream_break id head text broken other a b
one_way id (FolderText tree listing) broken other a b =
    let f = tree_breaks id tree listing broken a in
    let g = tree_breaks id tree listing other b in
    f.is ∙ ap (of_folder id) (folders.one_fault id tree (listing_text listing) f.fault g.fault f.breaks g.breaks) ∙ sym g.is
one_way id (BatchText text refs) broken other a b =
    let f = pair_breaks id text refs broken a in
    let g = pair_breaks id text refs other b in
    f.is ∙ ap (of_batch id) (one_fault_of_both id text refs f.fault g.fault f.breaks g.breaks) ∙ sym g.is
