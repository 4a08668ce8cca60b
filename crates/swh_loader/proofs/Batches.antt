-- What a load of a batch with its refs leaves that are read part by part.
use Rattle.std.proofs.Common.{◌≡◌, ◌⊎◌, inl, inr, ℕ, ◌+◌, ◌-◌, ◌<◌, Some, Result, Ok, Err, List, [], sym, subst, arith}
use Rattle.std.specs.Prelude.{IfOk, IfErr}
use Rattle.std.specs.List.{AllByRecursion}
use Rattle.swh_base.specs.declared.kind.Kind.{Kind}
use Rattle.swh_base.specs.declared.entry.Entry.{Entry}
use Rattle.swh_base.specs.declared.memory.Memory.{Memory}
use Rattle.swh_outside.specs.Views.{Disks}
use Rattle.swh_outside.specs.declared.fault.Opened.TheVariants.{Found as Here}
use Rattle.swh_model.specs.Archive.{Bodies}
use Rattle.swh_object.specs.Object.{IsObject}
use Rattle.swh_batchread.specs.Batch.{input_limit}
use Rattle.swh_batchread.specs.Giving.{BatchState, GoesOn}
use Rattle.swh_keeper.specs.Kept.{Kept}
use Rattle.swh_ingest.specs.declared.end.End as walk
use Rattle.swh_ingest.specs.declared.end.End.TheVariants.{Full, NotFound, Unread, Bad, Met}
use Rattle.swh_ingest.specs.declared.end.Loaded.{Loaded}
use Rattle.swh_ingest.specs.declared.end.LoadFault.{LoadFault}
use Rattle.swh_ingest.specs.declared.input.Opening.TheVariants.{Found}
use Rattle.swh_ingest.specs.declared.parts.Next.{Next}
use Rattle.swh_ingest.specs.Loading.{StopsFailing, statuses_of}
use Rattle.swh_ingest.specs.Owning.{Attempt}
use Rattle.swh_ingest.specs.Parts as walking
use Rattle.swh_ingest.proofs.Closes.{whole_good}
use Rattle.swh_keeperload.specs.Alone.{alone_protocol}
use Rattle.swh_keeperload.specs.Loading.{AddsVisit, EndsVisit, IsHeldBack, MakesVisitCalls, NoCountFell, Stops}
use Rattle.swh_inputs.specs.Input.{InputText}
use Rattle.swh_inputs.specs.Input.InputText.{BatchText}
use Rattle.swh_inputs.specs.Parts.{Parts, IsQuiet}
use Rattle.swh_inputs.specs.Batching.{AreQuiet, BatchCameOn, BatchMayGoOn, IsNextOfBatch}
use Rattle.swh_inputs.specs.Reading.{IsReadFault}
use Rattle.swh_inputs.specs.declared.bad.InputFault.{InputFault}
use Rattle.swh_inputs.specs.declared.bad.InputFault.TheVariants as fault
use Rattle.swh_inputs.specs.declared.input.Input.{Input}
use Rattle.swh_inputs.specs.declared.input.Input.TheVariants.{Batch}
use Rattle.swh_inputs.proofs.Batchings.{KeepsBoth, keeps_itself, all_quiet, broke_quiet, broke_so, given_quiet, may_give, means_all, objects_given, reaches_all, read_kept, so_far}
use Rattle.swh_loader.specs.Ending.{MayGiveObjects, IsJobEnd, IsQuietEnd, end_for, held_bodies, outcome_for}
use Rattle.swh_loader.specs.Leaving.{AreAllowed, IsLoadOf}
use Rattle.swh_loader.proofs.Leaves.{broken_quiet, given_by, quiet_as_it_was}
use Rattle.swh_loader.proofs.Outcomes.{load_of}

-- A batch that gave a part may be read on, and fewer parts may come.
pub goes_on : {N : Type 0} (old new : BatchState) (found : Result (Next N InputFault) Memory) → BatchMayGoOn old → IfOk found (λ next. walking.IsMore next → BatchCameOn old new)
    → IfOk found (λ next. walking.IsMore next → BatchMayGoOn new × (input_limit + 1 - new.held.place < input_limit + 1 - old.held.place))
goes_on old new (Ok next) low came = λ more.
    let onward = (came more).onward in
    let still = (came more).still in
    (still, omega (arith, onward, low, still))
goes_on old new (Err fault) low came = tt

-- The reader has read nothing, and the two sources are those of the input.
module _ {S F I N : Type 0} (id : Kind → List ℕ → List ℕ) (p : Parts S F) (i : I) (state : I → BatchState) (objects_of refs_of : I → S) (name_of refs_name_of : I → ℕ) (Gives : I → Result (Next N InputFault) Memory → I → Type 0)
    (on : (a : I) (found : Result (Next N InputFault) Memory) (now : I) (given : List Entry) → Gives a found now → GoesOn id p.sources (objects_of i) (refs_of i) given (state a) (objects_of a) (refs_of a)
    → IfOk found (IsNextOfBatch id p.sources (objects_of i) (refs_of i) given (state now) (objects_of now) (refs_of now)))
    (begins : GoesOn id p.sources (objects_of i) (refs_of i) [] (state i) (objects_of i) (refs_of i)) where
  abbrev pub input : I → Input S F
  input x = Batch (Here (objects_of x)) (Here (refs_of x))

  abbrev text : InputText
  text = BatchText (p.sources.left (objects_of i)) (p.sources.left (refs_of i))

  good : (objects : List Entry) (now : I) → walking.MayHaveGiven Gives i objects now → AllByRecursion (IsObject id) objects
  good objects now g = objects_given id p.sources (objects_of i) (refs_of i) state objects_of refs_of Gives on i objects now begins g

  may_objects : (objects : List Entry) (now : I) → walking.MayHaveGiven Gives i objects now → p.sources.tells → MayGiveObjects id text objects
  may_objects objects now g told = record {
    given = may_give id p.sources (objects_of i) (refs_of i) state objects_of refs_of Gives on i objects now begins g told;
    good = whole_good id objects (good objects now g);
  }

  pub batch_whole : (objects : List Entry) (snapshot : List ℕ) (now : I) → walking.GaveAll Gives i objects snapshot now → walking.ReachesAll id objects snapshot
  batch_whole objects snapshot now g = reaches_all id p.sources (objects_of i) (refs_of i) state objects_of refs_of Gives on i objects snapshot now begins g

  batch_allowed : (entries : List Entry) → walking.AreAllowed Gives Found i entries → AreAllowed id p (input i) entries
  batch_allowed entries are = λ told. given_by id text are.objects (may_objects are.objects are.now are.given told) entries are.among

  batch_end : (now : I) (bodies : Bodies) (end : walk.End InputFault) → walking.IsGivenEndAt Gives Found bodies i now end → IsJobEnd id p bodies (input i) (input now) (end_for end)
  batch_end now bodies (Full snapshot) h = λ told. record {
    objects = h.0;
    means = record { meaning = means_all id p.sources (objects_of i) (refs_of i) state objects_of refs_of Gives on i h.0 snapshot now begins h.1 told; good = whole_good id h.0 (good h.0 now (inr (snapshot, h.1))) };
    held = h.2;
  }
  batch_end now bodies (Met name) h = λ told. record { objects = h.0; may = may_objects h.0 now h.1 told; collision = h.2 }
  batch_end now bodies (Bad (fault.Bad bad)) h = broke_so id p.sources (objects_of i) (refs_of i) state objects_of refs_of Gives on i (fault.Bad bad) now begins h.broke
  batch_end now bodies (Bad fault.ReadFault) h = broke_so id p.sources (objects_of i) (refs_of i) state objects_of refs_of Gives on i fault.ReadFault now begins h.broke
  batch_end now bodies NotFound h = absurd h
  batch_end now bodies Unread h = absurd h

  module _ (keeps : (a : I) (found : Result (Next N InputFault) Memory) (now : I) → Gives a found now → KeepsBoth p.sources objects_of refs_of name_of refs_name_of a now) where
    pub batch_kept : (now : I) → walking.IsSameOrReadOn Gives Found i now → KeepsBoth p.sources objects_of refs_of name_of refs_name_of i now
    batch_kept now (inl still) = subst (λ (x : I). KeepsBoth p.sources objects_of refs_of name_of refs_name_of i x) (sym still) (keeps_itself p.sources objects_of refs_of name_of refs_name_of i)
    batch_kept now (inr was) = read_kept p.sources objects_of refs_of name_of refs_name_of Gives keeps i now was.read

    -- Where reading on tells each failure, so does the load.
    module _ (hears : (a : I) (found : Result (Next N InputFault) Memory) (now : I) (given : List Entry) → Gives a found now → GoesOn id p.sources (objects_of i) (refs_of i) given (state a) (objects_of a) (refs_of a)
        → (IsReadFault found → ⊥) → AreQuiet p.sources (objects_of i) (refs_of i) (objects_of now) (refs_of now)) where
      quiet_input : (now : I) → AreQuiet p.sources (objects_of i) (refs_of i) (objects_of now) (refs_of now) → IsQuiet p (input i) (input now)
      quiet_input now h = (h.quiet, h.quiet_refs)

      batch_quiet : (now : I) (bodies : Bodies) (end : walk.End InputFault) → walking.IsGivenEndAt Gives Found bodies i now end → IsQuietEnd p (input i) (input now) (end_for end)
      batch_quiet now bodies (Full snapshot) h = quiet_input now (all_quiet id p.sources (objects_of i) (refs_of i) state objects_of refs_of Gives on i h.0 snapshot now begins h.1)
      batch_quiet now bodies (Met name) h = quiet_input now (given_quiet id p.sources (objects_of i) (refs_of i) state objects_of refs_of Gives on i h.0 now begins h.1)
      batch_quiet now bodies (Bad bad) h = broken_quiet p (input i) (input now) bad (λ untold. quiet_input now (broke_quiet id p.sources (objects_of i) (refs_of i) state objects_of refs_of Gives on hears i bad now begins h.broke untold))
      batch_quiet now bodies NotFound h = absurd h
      batch_quiet now bodies Unread h = absurd h

      -- And where it stopped.
      batch_calm : (now : I) → walking.IsSameOrUnbroken Gives i now → IsQuiet p (input i) (input now)
      batch_calm now (inl still) = subst (λ (x : I). IsQuiet p (input i) (input x)) (sym still) (quiet_as_it_was p (input i))
      batch_calm now (inr (inl (objects, given))) = quiet_input now (given_quiet id p.sources (objects_of i) (refs_of i) state objects_of refs_of Gives on i objects now begins given)
      batch_calm now (inr (inr none)) = quiet_input now (hears none.mid (Err none.fault) now none.front none.gives (so_far id p.sources (objects_of i) (refs_of i) state objects_of refs_of Gives on i none.front none.mid begins none.so_far) (λ e. absurd cc))

      -- All that is said of the load.
      pub batch_load : {D : Type 0} (disks : Disks D) (a : Attempt) (old new : Kept D) (now : I) (result : Result (Loaded InputFault) LoadFault)
          → IfOk result (λ loaded. EndsVisit a old new loaded.visit (statuses_of loaded.end)) → IfOk result (λ loaded. walking.IsGivenEndAt Gives Found (held_bodies new) i now loaded.end)
          → AddsVisit (walking.AreAllowed Gives Found i) a old.history new.history → (disks.tells → MakesVisitCalls id disks (walking.AreAllowed Gives Found i) a old new) → ((n : ℕ) → old.wounded ≡ Some n → IsHeldBack old new result)
          → IfErr result (Stops id disks (walking.AreAllowed Gives Found i) a old new) → NoCountFell disks old new → walking.IsSameOrReadOn Gives Found i now → IfErr result (λ fault. walking.IsSameOrUnbroken Gives i now ⊎ StopsFailing id (alone_protocol id disks a.by) a fault.visit new fault.why)
          → IsLoadOf id p disks a (input i) (input now) old new (outcome_for result)
      batch_load disks a old new now result ended end adds calls wounded stops later read heard =
          let kept = batch_kept now read in
          load_of id p disks a (input i) (input now) old new (walking.AreAllowed Gives Found i) (walking.IsGivenEndAt Gives Found (held_bodies new) i now)
          batch_allowed (batch_end now (held_bodies new)) (batch_quiet now (held_bodies new)) (walking.IsSameOrUnbroken Gives i now) (batch_calm now) result ended end adds calls wounded stops later (kept.same, kept.same_refs) heard
