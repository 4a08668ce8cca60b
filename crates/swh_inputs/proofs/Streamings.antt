-- What a stream gave that is read part by part.
use Rattle.std.proofs.Common.{◌≡◌, ◌⊎◌, ℕ, ◌≤◌, inl, inr, List, [], ◌∷◌, ◌++◌, Option, Some, None, Result, Ok, Contains, arith, sym, ap, ◌∙◌, subst}
use Rattle.std.specs.Prelude.{IfOk}
use Rattle.std.specs.Global.{Vec}
use Rattle.std.specs.List.{AllByRecursion}
use Rattle.swh_base.specs.declared.kind.Kind.{Kind}
use Rattle.swh_base.specs.declared.entry.Entry.{Entry}
use Rattle.swh_base.specs.declared.memory.Memory.{Memory}
use Rattle.swh_base.specs.declared.visit.VisitKind.TheVariants.{Fast}
use Rattle.swh_outside.specs.Faults.{Rose}
use Rattle.swh_model.specs.Meaning.{Made, StreamMeaning}
use Rattle.swh_object.specs.Object.{IsObject}
use Rattle.std.proofs.lemmas.List.{map-append}
use Rattle.std.proofs.lemmas.List.Elements.{Contains-append_left}
use Rattle.swh_dedup.specs.Making.{made, made_from}
use Rattle.swh_dedup.proofs.Wholes.{new_whole}
use Rattle.swh_fastload.specs.Giving.{BreaksOff, EndsStream, GoesOn, StreamState, meaning_of}
use Rattle.swh_fastload.specs.declared.bad.BadStream.TheVariants as stream
use Rattle.swh_fastload.specs.declared.bad.InputFault.{InputFault as StreamFault}
use Rattle.swh_fastload.specs.declared.bad.InputFault.TheVariants as of_stream
use Rattle.swh_fastload.specs.Input.{Means}
use Rattle.swh_fastload.proofs.Givings.{come_first, given_meant, gives_first, gives_meant}
use Rattle.swh_batchread.specs.Giving.{GivesFirst}
use Rattle.swh_batchread.proofs.Givings.{first_among}
use Rattle.swh_ingest.specs.declared.parts.Next.{Next}
use Rattle.swh_ingest.specs.declared.parts.Next.TheVariants as next
use Rattle.swh_ingest.specs.Parts.{GaveSoFar, GaveSome, GaveAll, Broke, MayHaveGiven, IsReadOn, ReachesAll}
use Rattle.swh_ingest.proofs.SoFar.{so_far_keeps, some_keeps}
use Rattle.swh_inputs.specs.Input.{InputText, BreaksInput, MayBreakInput, MeansInput}
use Rattle.swh_inputs.specs.Input.InputText.{StreamText, FolderText, BatchText}
use Rattle.swh_inputs.specs.Reading.{IsReadFault}
use Rattle.swh_inputs.specs.Streaming.{AreMeantBy, IsNextOf, MayGiveInput}
use Rattle.swh_inputs.specs.Reading.{told_of_stream}
use Rattle.swh_inputs.specs.declared.bad.BadText.{BadText}
use Rattle.swh_inputs.specs.declared.bad.BadText.TheVariants.{Stream, Limit}
use Rattle.swh_inputs.specs.declared.bad.InputFault.{InputFault}
use Rattle.swh_inputs.specs.declared.bad.InputFault.TheVariants.{Bad, ReadFault}
use Rattle.swh_inputs.proofs.OneInput.{one_making}

-- why nothing comes any more
pub told_next : (N : Type 0) (id : Kind → List ℕ → List ℕ) (tells : Type 0) (head : Option (List ℕ)) (text : List ℕ) (faults : ℕ) (path : List ℕ) (given : List Entry) (s : StreamState) (fault : StreamFault) (told : InputFault) → told_of_stream fault ≡ Some told → BreaksOff id tells head text faults s.standing.place.faults fault → IsNextOf {N = N} id tells head text faults path given s (next.Bad told)
unfolding BreaksInput MayBreakInput
told_next N id tells head text faults path given s (of_stream.Bad (stream.Stream at why)) told is h = let same : Bad (Stream at why) ≡ told = cc in subst (λ (t : InputFault). IsNextOf {N = N} id tells head text faults path given s (next.Bad t)) same h
told_next N id tells head text faults path given s (of_stream.Bad (stream.Limit which number)) told is h = let same : Bad (Limit which number) ≡ told = cc in subst (λ (t : InputFault). IsNextOf {N = N} id tells head text faults path given s (next.Bad t)) same h
told_next N id tells head text faults path given s of_stream.ReadFault told is h = let same : ReadFault ≡ told = cc in subst (λ (t : InputFault). IsNextOf {N = N} id tells head text faults path given s (next.Bad t)) same h
told_next N id tells head text faults path given s of_stream.Memory told is h = let no : None ≡ Some told = is in absurd cc

-- `Gives` is a way to read a stream on.
module _ {N : Type 0} (id : Kind → List ℕ → List ℕ) (tells : Type 0) (head : Option (List ℕ)) (text : List ℕ) (faults : ℕ) (path : List ℕ) (Gives : StreamState → Result (Next N InputFault) Memory → StreamState → Type 0)
    (on : (i : StreamState) (found : Result (Next N InputFault) Memory) (now : StreamState) (given : List Entry) → Gives i found now → GoesOn id tells text faults path given i → IfOk found (IsNextOf id tells head text faults path given now)) where
  step : (given : List Entry) (objects : Vec Entry) (mid now : StreamState) → GoesOn id tells text faults path given mid → Gives mid (Ok (next.Part objects)) now → GoesOn id tells text faults path (given ++ objects.items) now
  step given objects mid now h g = on mid (Ok (next.Part objects)) now given g h

  -- The stream goes on behind parts of it.
  pub so_far : (i : StreamState) (objects : List Entry) (now : StreamState) → GoesOn id tells text faults path [] i → GaveSoFar Gives i objects now → GoesOn id tells text faults path objects now
  so_far i objects now h g = so_far_keeps Gives (λ (given : List Entry) (s : StreamState). GoesOn id tells text faults path given s) step i now objects h g

  -- It ended.
  pub ended : (i : StreamState) (objects : List Entry) (snapshot : List ℕ) (now : StreamState) → GoesOn id tells text faults path [] i → (g : GaveAll Gives i objects snapshot now) → EndsStream id tells head text faults path g.front now g.last
  ended i objects snapshot now h g = on g.mid (Ok (next.Last g.last)) now g.front g.gives (so_far i g.front g.mid h g.so_far)

  meant : (i : StreamState) (objects : List Entry) (snapshot : List ℕ) (now : StreamState) → GoesOn id tells text faults path [] i → GaveAll Gives i objects snapshot now → tells → Means id head text (meaning_of objects snapshot)
  meant i objects snapshot now h g told =
      let same : meaning_of objects snapshot ≡ meaning_of (g.front ++ g.last.objects.items) g.last.snapshot = ap (λ (es : List Entry). meaning_of es snapshot) g.are ∙ ap (λ (s : List ℕ). meaning_of (g.front ++ g.last.objects.items) s) g.root in
      subst (λ (m : StreamMeaning). Means id head text m) (sym same) ((ended i objects snapshot now h g).means told)

  -- With all that it gave it means something.
  pub means_all : (i : StreamState) (objects : List Entry) (snapshot : List ℕ) (now : StreamState) → GoesOn id tells text faults path [] i → GaveAll Gives i objects snapshot now → tells → MeansInput id (StreamText head text) (meaning_of objects snapshot)
  unfolding MeansInput
  means_all i objects snapshot now h g told = meant i objects snapshot now h g told

  -- What it gave in all has all that is reached from its snapshot.
  pub reaches_all : (i : StreamState) (objects : List Entry) (snapshot : List ℕ) (now : StreamState) → GoesOn id tells text faults path [] i → GaveAll Gives i objects snapshot now → ReachesAll id objects snapshot
  reaches_all i objects snapshot now h g =
      let e = ended i objects snapshot now h g in
      subst (λ (s : List ℕ). ReachesAll id objects s) (sym g.root) (subst (λ (es : List Entry). ReachesAll id es g.last.snapshot) (sym g.are) (record { whole = e.all.whole; root = e.all.root }))

  -- How it broke.
  pub broke_so : (i : StreamState) (bad : BadText) (now : StreamState) → GoesOn id tells text faults path [] i → Broke Gives i (Bad bad) now → MayBreakInput Fast bad × (tells → BreaksInput id (StreamText head text) bad)
  broke_so i bad now h g = on g.mid (Ok (next.Bad (Bad bad))) now g.front g.gives (so_far i g.front g.mid h g.so_far)

  -- Its source failed.
  pub failed_so : (i now : StreamState) → GoesOn id tells text faults path [] i → Broke Gives i ReadFault now → Rose faults now.standing.place.faults
  failed_so i now h g = on g.mid (Ok (next.Bad ReadFault)) now g.front g.gives (so_far i g.front g.mid h g.so_far)

  gave_some : (i : StreamState) (objects : List Entry) (now : StreamState) → GoesOn id tells text faults path [] i → GaveSome Gives i objects now → GoesOn id tells text faults path objects now
  gave_some i objects now h g = some_keeps Gives (λ (given : List Entry) (s : StreamState). GoesOn id tells text faults path given s) step i now objects h g

  -- What it gave it may give.
  pub may_give : (i : StreamState) (objects : List Entry) (now : StreamState) → GoesOn id tells text faults path [] i → MayHaveGiven Gives i objects now → tells → MayGiveInput id (StreamText head text) (made objects)
  unfolding MayGiveInput
  may_give i objects now h (inl g) told =
      let on_now = gave_some i objects now h g in
      gives_first id head text (made objects) (come_first id text now objects (on_now.come told))
  may_give i objects now h (inr (snapshot, g)) told = gives_meant id head text (made objects) (record { meaning = meaning_of objects snapshot; means = meant i objects snapshot now h g told; among = λ m c. c })

  -- Nothing failed of what gave all, or what it gave so far.
  pub all_quiet : (i : StreamState) (objects : List Entry) (snapshot : List ℕ) (now : StreamState) → GoesOn id tells text faults path [] i → GaveAll Gives i objects snapshot now → now.standing.place.faults ≡ faults
  all_quiet i objects snapshot now h g = (ended i objects snapshot now h g).quiet

  pub given_quiet : (i : StreamState) (objects : List Entry) (now : StreamState) → GoesOn id tells text faults path [] i → MayHaveGiven Gives i objects now → now.standing.place.faults ≡ faults
  given_quiet i objects now h (inl g) = (gave_some i objects now h g).quiet
  given_quiet i objects now h (inr (snapshot, g)) = all_quiet i objects snapshot now h g

  -- Where it broke, a failure is told.
  pub broke_quiet : ((i : StreamState) (found : Result (Next N InputFault) Memory) (now : StreamState) → Gives i found now → (IsReadFault found → ⊥) → now.standing.place.faults ≡ i.standing.place.faults)
      → (i : StreamState) (bad : InputFault) (now : StreamState) → GoesOn id tells text faults path [] i → Broke Gives i bad now → (bad ≡ ReadFault → ⊥) → now.standing.place.faults ≡ faults
  broke_quiet hears i bad now h g untold = hears g.mid (Ok (next.Bad bad)) now g.gives (λ e. untold (let same : bad ≡ ReadFault = cc in same)) ∙ (so_far i g.front g.mid h g.so_far).quiet

  -- Each object that it gave is one.
  pub objects_given : (i : StreamState) (objects : List Entry) (now : StreamState) → GoesOn id tells text faults path [] i → MayHaveGiven Gives i objects now → AllByRecursion (IsObject id) objects
  objects_given i objects now h (inl g) = (new_whole id objects (gave_some i objects now h g).are.fresh).each
  objects_given i objects now h (inr (snapshot, g)) = subst (λ (es : List Entry). AllByRecursion (IsObject id) es) (sym g.are) (ended i objects snapshot now h g).all.whole.each

  -- Where reading on keeps the path and lets no count of faults fall, so does all that was read.
  module _ (keeps : (i : StreamState) (found : Result (Next N InputFault) Memory) (now : StreamState) → Gives i found now → (now.standing.place.path ≡ i.standing.place.path) × (i.standing.place.faults ≤ now.standing.place.faults)) where
    kept_behind : (mid now : StreamState) (front : List Entry) → GoesOn id tells text faults path front mid → (now ≡ mid) ⊎ ((found : Result (Next N InputFault) Memory) × Gives mid found now) → (now.standing.place.path ≡ path) × (faults ≤ now.standing.place.faults)
    kept_behind mid now front g (inl still) =
        let quiet : now.standing.place.faults ≡ faults = ap (λ (s : StreamState). s.standing.place.faults) still ∙ g.quiet in
        (ap (λ (s : StreamState). s.standing.place.path) still ∙ g.same_path, omega (arith, quiet))
    kept_behind mid now front g (inr (found, gives)) =
        let k = keeps mid found now gives in
        let later = k.1 in
        let quiet = g.quiet in
        (k.0 ∙ g.same_path, omega (arith, later, quiet))

    pub read_kept : (i now : StreamState) → GoesOn id tells text faults path [] i → IsReadOn Gives i now → (now.standing.place.path ≡ path) × (faults ≤ now.standing.place.faults)
    read_kept i now h r = kept_behind r.mid now r.front (so_far i r.front r.mid h r.so_far) r.rest

-- What is given at the end belongs to all that the input means.
meant_among : (id : Kind → List ℕ → List ℕ) (text : InputText) (objects : List Made) (meaning : StreamMeaning) → AreMeantBy id text objects → MeansInput id text meaning → (m : Made) → Contains objects m → Contains meaning.objects m
meant_among id text objects meaning a h m c = ((one_making id text a.meaning meaning a.means h).objects m).0 (a.among m c)

stream_among : (id : Kind → List ℕ → List ℕ) (head : Option (List ℕ)) (text : List ℕ) (objects : List Made) (meaning : StreamMeaning) → MayGiveInput id (StreamText head text) objects → MeansInput id (StreamText head text) meaning → (m : Made) → Contains objects m → Contains meaning.objects m
unfolding MayGiveInput MeansInput
stream_among id head text objects meaning g h m c = given_meant id head text objects meaning g h m c

batch_among : (id : Kind → List ℕ → List ℕ) (text refs : List ℕ) (objects : List Made) (meaning : StreamMeaning) → GivesFirst id text objects → MeansInput id (BatchText text refs) meaning → (m : Made) → Contains objects m → Contains meaning.objects m
unfolding MeansInput
batch_among id text refs objects meaning f h m c =
    let of_batch = first_among id text objects (made h.objects) f h.of_batch.means m c in
    let all : made h.all ≡ made h.objects ++ made (h.means.gives.snapshot ∷ []) = ap made h.means.gives.objects_are ∙ map-append made_from h.objects (h.means.gives.snapshot ∷ []) in
    subst (λ (ms : List Made). Contains ms m) (sym (h.are ∙ all)) (Contains-append_left (made h.objects) (made (h.means.gives.snapshot ∷ [])) m of_batch)

-- What an input gives belongs to what it means.
pub given_among : (id : Kind → List ℕ → List ℕ) (text : InputText) (objects : List Made) (meaning : StreamMeaning) → MayGiveInput id text objects → MeansInput id text meaning → (m : Made) → Contains objects m → Contains meaning.objects m
unfolding MayGiveInput
given_among id (StreamText head text) objects meaning g h m c = stream_among id head text objects meaning g h m c
given_among id (FolderText tree listing) objects meaning g h m c = meant_among id (FolderText tree listing) objects meaning g h m c
given_among id (BatchText of_batch refs) objects meaning (inl f) h m c = batch_among id of_batch refs objects meaning f h m c
given_among id (BatchText of_batch refs) objects meaning (inr g) h m c = meant_among id (BatchText of_batch refs) objects meaning g h m c

stream_given : (id : Kind → List ℕ → List ℕ) (head : Option (List ℕ)) (text : List ℕ) (meaning : StreamMeaning) → MeansInput id (StreamText head text) meaning → MayGiveInput id (StreamText head text) meaning.objects
unfolding MayGiveInput MeansInput
stream_given id head text meaning h = gives_meant id head text meaning.objects (record { meaning = meaning; means = h; among = λ m c. c })

-- What an input means it may give.
pub meant_given : (id : Kind → List ℕ → List ℕ) (text : InputText) (meaning : StreamMeaning) → MeansInput id text meaning → MayGiveInput id text meaning.objects
unfolding MayGiveInput
meant_given id (StreamText head text) meaning h = stream_given id head text meaning h
meant_given id (FolderText tree listing) meaning h = record { meaning = meaning; means = h; among = λ m c. c }
meant_given id (BatchText of_batch refs) meaning h = inr (record { meaning = meaning; means = h; among = λ m c. c })
