-- What a load of a stream leaves that is read part by part.
use Rattle.std.proofs.Common.{◌≡◌, ◌⊎◌, inl, inr, ℕ, ◌-◌, ◌^◌, ◌<◌, ◌≤◌, Option, Some, Result, Ok, Err, List, [], ◌∷◌, refl, sym, ap, ◌∙◌, subst, arith}
use Rattle.std.specs.Prelude.{IfOk, IfErr}
use Rattle.std.specs.List.{AllByRecursion}
use Rattle.swh_base.specs.declared.kind.Kind.{Kind}
use Rattle.swh_base.specs.declared.entry.Entry.{Entry}
use Rattle.swh_base.specs.declared.memory.Memory.{Memory}
use Rattle.swh_outside.specs.Faults.{Rose}
use Rattle.swh_outside.specs.Views.{Disks}
use Rattle.swh_outside.specs.declared.fault.Opened.TheVariants.{Found as Here}
use Rattle.swh_model.specs.Archive.{Bodies}
use Rattle.swh_object.specs.Object.{IsObject}
use Rattle.swh_fastload.specs.Giving.{GoesOn, StreamState}
use Rattle.swh_keeper.specs.Kept.{Kept}
use Rattle.swh_ingest.specs.declared.end.End as walk
use Rattle.swh_ingest.specs.declared.end.End.TheVariants.{Full, NotFound, Unread, Bad, Met}
use Rattle.swh_ingest.specs.declared.end.Loaded.{Loaded}
use Rattle.swh_ingest.specs.declared.end.LoadFault.{LoadFault}
use Rattle.swh_ingest.specs.declared.input.Opening.TheVariants.{Found}
use Rattle.swh_ingest.specs.declared.parts.Next.{Next}
use Rattle.swh_ingest.specs.Loading.{StopsFailing, statuses_of}
use Rattle.swh_ingest.specs.Owning.{Attempt}
use Rattle.swh_ingest.specs.Parts as walking
use Rattle.swh_ingest.proofs.Closes.{whole_good}
use Rattle.swh_keeperload.specs.Alone.{alone_protocol}
use Rattle.swh_keeperload.specs.Loading.{AddsVisit, EndsVisit, IsHeldBack, MakesVisitCalls, NoCountFell, Stops}
use Rattle.swh_inputs.specs.Input.{InputText}
use Rattle.swh_inputs.specs.Input.InputText.{StreamText}
use Rattle.swh_inputs.specs.Reading.{IsReadFault}
use Rattle.swh_inputs.specs.Parts.{Parts, IsSameInput}
use Rattle.swh_inputs.specs.Streaming.{CameOn, IsNextOf, MayGoOn}
use Rattle.swh_inputs.specs.declared.bad.InputFault.{InputFault}
use Rattle.swh_inputs.specs.declared.bad.InputFault.TheVariants as fault
use Rattle.swh_inputs.specs.declared.input.Input.{Input}
use Rattle.swh_inputs.specs.declared.input.Input.TheVariants.{Fast}
use Rattle.swh_inputs.proofs.Streamings.{all_quiet, broke_quiet, broke_so, failed_so, given_quiet, may_give, means_all, objects_given, reaches_all, read_kept, so_far}
use Rattle.swh_loader.specs.Ending.{MayGiveObjects, IsJobEnd, IsQuietEnd, end_for, held_bodies, outcome_for}
use Rattle.swh_loader.specs.Leaving.{AreAllowed, IsLoadOf}
use Rattle.swh_loader.proofs.Leaves.{broken_quiet, given_by}
use Rattle.swh_loader.proofs.Outcomes.{load_of}

-- The path is the same, and the count of faults did not fall.
abbrev pub Keeps : StreamState → StreamState → Type 0
Keeps i now = (now.standing.place.path ≡ i.standing.place.path) × (i.standing.place.faults ≤ now.standing.place.faults)

-- A stream that gave a part may be read on, and fewer parts may come.
pub goes_on : {N : Type 0} (old new : StreamState) (found : Result (Next N InputFault) Memory) → IfOk found (λ next. walking.IsMore next → CameOn old new) → old.standing.place.at ≤ 2 ^ 33
    → IfOk found (λ next. walking.IsMore next → MayGoOn new × (2 ^ 34 - new.standing.place.at < 2 ^ 34 - old.standing.place.at))
goes_on old new (Ok next) came within = λ more.
    let onward = (came more).onward in
    ((came more).still, omega (arith, onward, within))
goes_on old new (Err fault) came within = tt

module _ {S F N : Type 0} (id : Kind → List ℕ → List ℕ) (p : Parts S F) (head : Option (List ℕ)) (s : S) (path : List ℕ)
    (Gives : StreamState → Result (Next N InputFault) Memory → StreamState → Type 0)
    (on : (i : StreamState) (found : Result (Next N InputFault) Memory) (now : StreamState) (given : List Entry) → Gives i found now
    → GoesOn id p.sources.tells (p.sources.left s) (p.sources.faults s) path given i → IfOk found (IsNextOf id p.sources.tells head (p.sources.left s) (p.sources.faults s) path given now))
    (i : StreamState) (begins : GoesOn id p.sources.tells (p.sources.left s) (p.sources.faults s) path [] i) where
  abbrev input : S → Input S F
  input x = Fast (Here x) head

  abbrev text : InputText
  text = StreamText head (p.sources.left s)

  good : (objects : List Entry) (now : StreamState) → walking.MayHaveGiven Gives i objects now → AllByRecursion (IsObject id) objects
  good objects now g = objects_given id p.sources.tells head (p.sources.left s) (p.sources.faults s) path Gives on i objects now begins g

  may_objects : (objects : List Entry) (now : StreamState) → walking.MayHaveGiven Gives i objects now → p.sources.tells → MayGiveObjects id text objects
  may_objects objects now g told = record {
    given = may_give id p.sources.tells head (p.sources.left s) (p.sources.faults s) path Gives on i objects now begins g told;
    good = whole_good id objects (good objects now g);
  }

  pub stream_whole : (objects : List Entry) (snapshot : List ℕ) (now : StreamState) → walking.GaveAll Gives i objects snapshot now → walking.ReachesAll id objects snapshot
  stream_whole objects snapshot now g = reaches_all id p.sources.tells head (p.sources.left s) (p.sources.faults s) path Gives on i objects snapshot now begins g

  pub stream_allowed : (entries : List Entry) → walking.AreAllowed Gives Found i entries → AreAllowed id p (input s) entries
  stream_allowed entries are = λ told. given_by id text are.objects (may_objects are.objects are.now are.given told) entries are.among

  -- The source is back.
  module _ (now : StreamState) (back : S) (faults : p.sources.faults back ≡ now.standing.place.faults) where
    pub stream_end : (bodies : Bodies) (end : walk.End InputFault) → walking.IsGivenEndAt Gives Found bodies i now end → IsJobEnd id p bodies (input s) (input back) (end_for end)
    stream_end bodies (Full snapshot) h = λ told. record {
      objects = h.0;
      means = record { meaning = means_all id p.sources.tells head (p.sources.left s) (p.sources.faults s) path Gives on i h.0 snapshot now begins h.1 told; good = whole_good id h.0 (good h.0 now (inr (snapshot, h.1))) };
      held = h.2;
    }
    stream_end bodies (Met name) h = λ told. record { objects = h.0; may = may_objects h.0 now h.1 told; collision = h.2 }
    stream_end bodies (Bad (fault.Bad bad)) h =
        let why = broke_so id p.sources.tells head (p.sources.left s) (p.sources.faults s) path Gives on i bad now begins h.broke in
        record { may = why.0; breaks = why.1 }
    stream_end bodies (Bad fault.ReadFault) h = subst (Rose (p.sources.faults s)) (sym faults) (failed_so id p.sources.tells head (p.sources.left s) (p.sources.faults s) path Gives on i now begins h.broke)
    stream_end bodies NotFound h = absurd h
    stream_end bodies Unread h = absurd h

    -- The reader's path has the name of the loan before the source's own.
    module _ (keeps : (i : StreamState) (found : Result (Next N InputFault) Memory) (now : StreamState) → Gives i found now → Keeps i now) where
      kept : walking.IsSameOrReadOn Gives Found i now → (now.standing.place.path ≡ path) × (p.sources.faults s ≤ now.standing.place.faults)
      kept (inl still) =
          let quiet : now.standing.place.faults ≡ p.sources.faults s = ap (λ (x : StreamState). x.standing.place.faults) still ∙ begins.quiet in
          (ap (λ (x : StreamState). x.standing.place.path) still ∙ begins.same_path, omega (arith, quiet))
      kept (inr was) = read_kept id p.sources.tells head (p.sources.left s) (p.sources.faults s) path Gives on keeps i now begins was.read

      same_paths : (name other : ℕ) → path ≡ name ∷ p.sources.path s → other ∷ p.sources.path back ≡ now.standing.place.path → walking.IsSameOrReadOn Gives Found i now → other ∷ p.sources.path back ≡ name ∷ p.sources.path s
      same_paths name other begun ended read = ended ∙ (kept read).0 ∙ begun

      pub stream_loan : (name other : ℕ) → path ≡ name ∷ p.sources.path s → other ∷ p.sources.path back ≡ now.standing.place.path → walking.IsSameOrReadOn Gives Found i now → other ≡ name
      stream_loan name other begun ended read = let both = same_paths name other begun ended read in cc

      pub stream_same : (name other : ℕ) → path ≡ name ∷ p.sources.path s → other ∷ p.sources.path back ≡ now.standing.place.path → walking.IsSameOrReadOn Gives Found i now → IsSameInput p (input s) (input back)
      stream_same name other begun ended read =
          let both = same_paths name other begun ended read in
          let there : p.sources.path back ≡ p.sources.path s = cc in
          let later = (kept read).1 in
          ((there, omega (arith, later, faults)), refl)

      -- Where reading on tells each failure, so does the load.
      module _ (hears : (i : StreamState) (found : Result (Next N InputFault) Memory) (now : StreamState) → Gives i found now → (IsReadFault found → ⊥) → now.standing.place.faults ≡ i.standing.place.faults) where
        stream_quiet : (bodies : Bodies) (end : walk.End InputFault) → walking.IsGivenEndAt Gives Found bodies i now end → IsQuietEnd p (input s) (input back) (end_for end)
        stream_quiet bodies (Full snapshot) h = faults ∙ all_quiet id p.sources.tells head (p.sources.left s) (p.sources.faults s) path Gives on i h.0 snapshot now begins h.1
        stream_quiet bodies (Met name) h = faults ∙ given_quiet id p.sources.tells head (p.sources.left s) (p.sources.faults s) path Gives on i h.0 now begins h.1
        stream_quiet bodies (Bad bad) h = broken_quiet p (input s) (input back) bad (λ untold. faults ∙ broke_quiet id p.sources.tells head (p.sources.left s) (p.sources.faults s) path Gives on hears i bad now begins h.broke untold)
        stream_quiet bodies NotFound h = absurd h
        stream_quiet bodies Unread h = absurd h

        -- And where it stopped.
        stream_calm : walking.IsSameOrUnbroken Gives i now → p.sources.faults back ≡ p.sources.faults s
        stream_calm (inl still) = faults ∙ ap (λ (x : StreamState). x.standing.place.faults) still ∙ begins.quiet
        stream_calm (inr (inl (objects, given))) = faults ∙ given_quiet id p.sources.tells head (p.sources.left s) (p.sources.faults s) path Gives on i objects now begins given
        stream_calm (inr (inr none)) = faults ∙ hears none.mid (Err none.fault) now none.gives (λ e. absurd cc) ∙ (so_far id p.sources.tells head (p.sources.left s) (p.sources.faults s) path Gives on i none.front none.mid begins none.so_far).quiet

        -- All that is said of the load.
        pub stream_load : {D : Type 0} (disks : Disks D) (a : Attempt) (old new : Kept D) (name other : ℕ) → path ≡ name ∷ p.sources.path s → other ∷ p.sources.path back ≡ now.standing.place.path → (result : Result (Loaded InputFault) LoadFault)
            → IfOk result (λ loaded. EndsVisit a old new loaded.visit (statuses_of loaded.end)) → IfOk result (λ loaded. walking.IsGivenEndAt Gives Found (held_bodies new) i now loaded.end)
            → AddsVisit (walking.AreAllowed Gives Found i) a old.history new.history → (disks.tells → MakesVisitCalls id disks (walking.AreAllowed Gives Found i) a old new) → ((n : ℕ) → old.wounded ≡ Some n → IsHeldBack old new result)
            → IfErr result (Stops id disks (walking.AreAllowed Gives Found i) a old new) → NoCountFell disks old new → walking.IsSameOrReadOn Gives Found i now → IfErr result (λ fault. walking.IsSameOrUnbroken Gives i now ⊎ StopsFailing id (alone_protocol id disks a.by) a fault.visit new fault.why)
            → IsLoadOf id p disks a (input s) (input back) old new (outcome_for result)
        stream_load disks a old new name other begun ended_at result ended end adds calls wounded stops later read heard =
            load_of id p disks a (input s) (input back) old new (walking.AreAllowed Gives Found i) (walking.IsGivenEndAt Gives Found (held_bodies new) i now)
            stream_allowed (stream_end (held_bodies new)) (stream_quiet (held_bodies new)) (walking.IsSameOrUnbroken Gives i now) stream_calm result ended end adds calls wounded stops later (stream_same name other begun ended_at read) heard
