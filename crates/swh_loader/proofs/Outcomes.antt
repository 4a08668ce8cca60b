-- What is said of a load of an input, by what is said of the walk beneath it.
use Rattle.std.proofs.Common.{◌≡◌, ◌⊎◌, inl, inr, ℕ, Some, Result, Ok, Err, List, [], ◌∷◌, ◌++◌, refl, sym, ◌∙◌, subst, le_refl}
use Rattle.std.specs.Prelude.{IfOk, IfErr}
use Rattle.std.proofs.lemmas.List.{append-nil, append_cancel_left}
use Rattle.swh_base.specs.declared.kind.Kind.{Kind}
use Rattle.swh_base.specs.declared.entry.Entry.{Entry}
use Rattle.swh_base.specs.Visit.{Statuses}
use Rattle.swh_outside.specs.Views.{Disks}
use Rattle.swh_model.specs.declared.event.Event.{Event}
use Rattle.swh_keeper.specs.Calls.{MakesCallsOf}
use Rattle.swh_keeper.specs.Kept.{Kept}
use Rattle.swh_ingest.specs.declared.end.End as walk
use Rattle.swh_ingest.specs.declared.end.Loaded.{Loaded}
use Rattle.swh_ingest.specs.declared.end.LoadFault.{LoadFault}
use Rattle.swh_ingest.specs.declared.stop.Stop.TheVariants.{Memory}
use Rattle.swh_ingest.specs.Loading as walking
use Rattle.swh_ingest.specs.Loading.{StopsFailing}
use Rattle.swh_ingest.specs.Owning.{Attempt}
use Rattle.swh_ingest.specs.Visiting.{next_visit}
use Rattle.swh_keeperload.specs.Alone.{alone_protocol}
use Rattle.swh_keeperload.specs.Loading.{AddsVisit, AreOfVisit, EndsVisit, IsHeldBack, MakesVisitCalls, NoCountFell, Stops}
use Rattle.swh_keeperload.proofs.Allowing.{adds_visit, visit_calls, stops_as}
use Rattle.swh_keeperload.proofs.Calls.{same_calls}
use Rattle.swh_inputs.specs.Parts.{Parts, IsQuiet, IsSameInput}
use Rattle.swh_inputs.specs.declared.bad.InputFault.{InputFault}
use Rattle.swh_inputs.specs.declared.input.Input.{Input}
use Rattle.swh_loader.specs.Ending.{IsJobEnd, IsQuietEnd, end_for, held_bodies, outcome_for}
use Rattle.swh_loader.specs.Leaving.{AreAllowed, HeardNoFailure, IsLoadOf}
use Rattle.swh_loader.proofs.Leaves.{as_it_was, job_short, quiet_as_it_was, same_statuses}

module _ {S F D : Type 0} (id : Kind → List ℕ → List ℕ) (p : Parts S F) (disks : Disks D) (a : Attempt) where
  -- `P` holds of what the walk may have sent, and `E` of the end of its visit.
  module _ (i now : Input S F) (old new : Kept D) (P : List Entry → Type 0) (E : walk.End InputFault → Type 0)
      (more : (entries : List Entry) → P entries → AreAllowed id p i entries)
      (ends : (end : walk.End InputFault) → E end → IsJobEnd id p (held_bodies new) i now (end_for end))
      (quiet : (end : walk.End InputFault) → E end → IsQuietEnd p i now (end_for end)) (U : Type 0) (calm : U → IsQuiet p i now) where
    -- the same of a load that stopped
    heard_as : (fault : LoadFault) → U ⊎ StopsFailing id (alone_protocol id disks a.by) a fault.visit new fault.why → HeardNoFailure id p disks a i now new fault
    heard_as fault (inl u) = inl (calm u)
    heard_as fault (inr failing) = inr failing

    pub load_of : (result : Result (Loaded InputFault) LoadFault) → IfOk result (λ loaded. EndsVisit a old new loaded.visit (walking.statuses_of loaded.end)) → IfOk result (λ loaded. E loaded.end)
        → AddsVisit P a old.history new.history → (disks.tells → MakesVisitCalls id disks P a old new) → ((n : ℕ) → old.wounded ≡ Some n → IsHeldBack old new result)
        → IfErr result (Stops id disks P a old new) → NoCountFell disks old new → IsSameInput p i now → IfErr result (λ fault. U ⊎ StopsFailing id (alone_protocol id disks a.by) a fault.visit new fault.why)
        → IsLoadOf id p disks a i now old new (outcome_for result)
    load_of (Ok loaded) ended end adds calls wounded stops later same heard = record {
      ended = subst (λ (later : Statuses). EndsVisit a old new loaded.visit later) (same_statuses loaded.end) ended;
      end = ends loaded.end end;
      quiet = quiet loaded.end end;
      heard = tt;
      short = job_short id p (held_bodies new) i now (end_for loaded.end) (ends loaded.end end);
      adds = adds_visit P (AreAllowed id p i) a more old.history new.history adds;
      calls = λ told. visit_calls P (AreAllowed id p i) a more id disks old new (calls told);
      wounded = wounded;
      stops = tt;
      later = later;
      same = same;
    }
    load_of (Err fault) ended end adds calls wounded stops later same heard = record {
      ended = tt;
      end = tt;
      quiet = tt;
      heard = heard_as fault heard;
      short = tt;
      adds = adds_visit P (AreAllowed id p i) a more old.history new.history adds;
      calls = λ told. visit_calls P (AreAllowed id p i) a more id disks old new (calls told);
      wounded = wounded;
      stops = stops_as P (AreAllowed id p i) a more id disks old new fault stops;
      later = later;
      same = same;
    }

  -- There was no memory to begin with.
  pub none_begun : (i : Input S F) (k : Kept D) → IsLoadOf id p disks a i i k k (Err (record { visit = 0; why = Memory }))
  none_begun i k = record {
    ended = tt;
    end = tt;
    quiet = tt;
    heard = inl (quiet_as_it_was p i);
    short = tt;
    adds = record { more = []; behind = sym (append-nil k.history); are = tt };
    calls = λ told more behind.
        subst (λ (xs : List Event). MakesCallsOf id disks.file (λ next. AreOfVisit (AreAllowed id p i) a (next_visit k.history a.origin) (xs ++ next ∷ [])) xs k k)
        (append_cancel_left k.history [] more (append-nil k.history ∙ behind))
        (same_calls id disks.file (λ next. AreOfVisit (AreAllowed id p i) a (next_visit k.history a.origin) (next ∷ [])) k k refl);
    wounded = λ n some. (refl, record { same = refl; cause = inr refl });
    stops = inl (record { no_visit = refl; same = refl; stops = refl });
    later = record { store = le_refl (disks.faults k.store); ledger = le_refl (disks.faults k.ledger) };
    same = as_it_was p i;
  }
