-- What loads into an open archive mean for the files of its folder.
use Rattle.std.proofs.Common.{◌≡◌, inl, inr, ℕ, ◌≤◌, Option, Some, None, Result, List, [], ◌∷◌, ◌++◌, refl, sym, ap, ◌∙◌, subst, append_assoc}
use Rattle.std.proofs.lemmas.List.{append-nil, append_cancel_left}
use Rattle.swh_base.specs.declared.kind.Kind.{Kind}
use Rattle.swh_outside.specs.Views.{Disks}
use Rattle.swh_outside.specs.Files.{Files, FileCall, AreImages, files_done}
use Rattle.swh_format.specs.EventRecord.{AreCodable}
use Rattle.swh_segment.specs.Making.{barriers}
use Rattle.swh_segment.specs.Settled.{seen_of}
use Rattle.swh_model.specs.declared.event.Event.{Event}
use Rattle.swh_model.specs.Archive.{Archive, empty_archive, visits_of}
use Rattle.swh_model.specs.Grows.{IsWithin, IsLaterVisit}
use Rattle.swh_model.specs.Step.{May, IsHistory, MayAll, after_all, replay, visit_at}
use Rattle.swh_model.proofs.Growing.{bodies_grow, visits_grow}
use Rattle.swh_model.proofs.Histories.{fronts}
use Rattle.swh_model.proofs.Sounds.{all-sound, empty-sound}
use Rattle.swh_keeper.specs.Kept.{Kept, IsKept, MayHoldOneMore}
use Rattle.swh_segment.specs.Standing.{AreStanding}
use Rattle.swh_keeper.proofs.KeptLemmas.{history-push}
use Rattle.swh_jobs.specs.Job.{Job}
use Rattle.swh_segment.specs.Calls.{all_calls}
use Rattle.swh_keeper.specs.Calls.{kept_files, MakesCallsOf, MakesCalls}
use Rattle.swh_segment.specs.Moments.{BreaksAtEvent, EachFrontMoment, IsSafelyBroken}
use Rattle.swh_segment.proofs.Moments.{codable_front, all_moments, opened_standing, safe_opening, safely_made, safely_broken}
use Rattle.swh_keeperload.proofs.Calls.{of_as}
use Rattle.swh_loader.specs.declared.end.Loaded.{Loaded}
use Rattle.swh_ingest.specs.declared.end.LoadFault.{LoadFault}
use Rattle.swh_pool.specs.Stops.{HaveNoDiskFault}
use Rattle.swh_program.specs.Inputs.{loader}
use Rattle.swh_program.specs.InTurn.{AreLoadsInTurn, IsNextOf}
use Rattle.swh_exit.specs.Opening.{IsArchive, IsOnlyOpened, IsOpenRefusal, OpenEnds}
use Rattle.swh_program.specs.Lines.{LoadedJob, outcomes, TellsLoad}
use Rattle.swh_program.specs.Load.{Givens, VisitsStay, LeavesDisks, IsInDoubt, MakesRunCalls, IsLoad, IsLoadedOrNot, IsUnloaded}
use Rattle.swh_program.specs.Loading.{IsUnstarted, AreKeptLoads, IsKeptRun}
use Rattle.swh_exit.specs.Damage.{IsUndamaged}
use Rattle.swh_exit.specs.declared.answer.Ending.TheVariants as ending
use Rattle.swh_exit.specs.declared.answer.Answer.{Answer}
use Rattle.swh_exit.specs.declared.answer.Answer.TheVariants.{NotMade, Damaged, OutsideDisk, Memory}
use Rattle.swh_program.proofs.Owned.{load_moments}
use Rattle.swh_program.proofs.Shared.{all_numbered}
use Rattle.swh_program.proofs.Turns.{all_own, all_behind, each_load, shared_in_turn, stops_in_turn}

-- What was held by a front of a history is held by the whole.
module _ (id_of : Kind → List ℕ → List ℕ) (before more : List Event) (history : IsHistory id_of (before ++ more)) where
  parts : MayAll id_of empty_archive before × MayAll id_of (after_all empty_archive before) more × (after_all empty_archive (before ++ more) ≡ after_all (after_all empty_archive before) more)
  parts = fronts id_of empty_archive before more history

  pub all_held : IsWithin (replay before).bodies (replay (before ++ more)).bodies
  all_held = subst (λ (a : Archive). IsWithin (replay before).bodies a.bodies) (sym parts.2) (bodies_grow id_of (replay before) more parts.1)

  pub visits_stay : VisitsStay before (before ++ more)
  visits_stay origin number v is =
      subst (λ (a : Archive). IsLaterVisit v (visit_at (visits_of a.origins origin) number)) (sym parts.2) (visits_grow id_of (replay before) more origin number v parts.1 is)

wounded_by : (w : Option ℕ) → (w ≡ None → ⊥) → (n : ℕ) × (w ≡ Some n)
wounded_by (Some n) some = (n, refl)
wounded_by None some = absurd (some refl)

-- lines are no damage, and nor is what stops them all
undamaged_load : (loads : List LoadedJob) (answer : Answer) → TellsLoad loads answer → IsUndamaged answer
undamaged_load loads (Damaged text) told = absurd told
undamaged_load loads _ told = tt

undamaged_start : (answer : Answer) → IsUnstarted answer → IsUndamaged answer
undamaged_start answer (inl clock) = subst IsUndamaged (sym clock) tt
undamaged_start answer (inr memory) = subst IsUndamaged (sym memory) tt

-- Loads into an archive that is open, and the files that are given back.
module _ {D : Type 0} (g : Givens) (disks : Disks D) where
  module _ (was now : Kept D) (old new : Files)
      (archive : g.disks_tell → IsArchive g.id_of old was.history) (kept : IsKept g.id_of disks.tells disks.file now) (told : g.disks_tell → disks.tells)
      (sees : g.disks_tell → AreImages old (seen_of old)) (opened : g.disks_tell → kept_files disks.file was ≡ files_done barriers old) (taken : g.disks_tell → new ≡ kept_files disks.file now) (unwounded : was.wounded ≡ None) where
    -- the calls of this run, by the files between the barriers and the events
    abbrev Begun : Files
    Begun = files_done barriers old

    -- by the events that loads added, where a disk failed at an event like these
    module _ (ended : List (Result Loaded LoadFault)) (none_of : now.wounded ≡ None → HaveNoDiskFault ended) (none : HaveNoDiskFault ended → now.wounded ≡ None)
        (more : List Event) (behind : now.history ≡ was.history ++ more) (Next : Event → Type 0) (calls : disks.tells → MakesCallsOf g.id_of disks.file Next more was now) where
      leaves_disks : g.disks_tell → LeavesDisks g.id_of (new 0) (new 1) now.history ended
      leaves_disks t = record {
        standing = λ no_fault. subst (λ (f : Files). AreStanding (f 0) (f 1) now.history) (sym (taken t)) (kept.standing (none no_fault) (told t));
        doubt = λ fault. subst (λ (f : Files). MayHoldOneMore g.id_of (f 0) (f 1) now.history) (sym (taken t))
            (let w = wounded_by now.wounded (λ e. fault (none_of e)) in kept.doubt w.0 w.1 (told t));
      }

      -- each event fits its fields
      codable_by : g.disks_tell → (w : Option ℕ) → now.wounded ≡ w → AreCodable 0 now.history
      codable_by t None is = (kept.standing is (told t)).stand.codable
      codable_by t (Some n) is = let b = (calls (told t)).broken unwounded n is in codable_front 0 now.history (b.event ∷ []) b.codable

      run_moments : g.disks_tell → EachFrontMoment was.history more Begun
      run_moments t = all_moments more was.history Begun (opened_standing old was.history (archive t).stand) (subst (AreCodable 0) behind (codable_by t now.wounded refl))

      run_history : IsHistory g.id_of (was.history ++ more)
      run_history = subst (IsHistory g.id_of) behind kept.history

      abbrev plan : List FileCall
      plan = all_calls was.history more

      from : g.disks_tell → files_done plan (kept_files disks.file was) ≡ files_done plan Begun
      from t = ap (files_done plan) (opened t)

      run_broken : g.disks_tell → (HaveNoDiskFault ended → ⊥) → IsSafelyBroken g.id_of Next was.history more Begun new
      run_broken t fault =
          let w = wounded_by now.wounded (λ e. fault (none_of e)) in
          let b : BreaksAtEvent g.id_of Next (was.history ++ more) (files_done plan Begun) new =
          subst (λ (f : Files). BreaksAtEvent g.id_of Next (was.history ++ more) (files_done plan Begun) f) (sym (taken t))
          (subst (λ (f : Files). BreaksAtEvent g.id_of Next (was.history ++ more) f (kept_files disks.file now)) (from t)
          (subst (λ (h : List Event). BreaksAtEvent g.id_of Next h (files_done plan (kept_files disks.file was)) (kept_files disks.file now)) behind ((calls (told t)).broken unwounded w.0 w.1))) in
          safely_broken g.id_of Next more was.history Begun new (opened_standing old was.history (archive t).stand) b

      -- with the event at which a disk failed they are a history too
      broken_history : (event : Event) → May g.id_of (replay (was.history ++ more)) event → IsHistory g.id_of (was.history ++ (more ++ event ∷ []))
      broken_history event may =
          subst (IsHistory g.id_of) (append_assoc was.history more (event ∷ [])) (history-push g.id_of empty_archive (was.history ++ more) event run_history may)

      run_calls : g.disks_tell → MakesRunCalls g.id_of Next ended old new was.history more
      run_calls t =
          let standing = opened_standing old was.history (archive t).stand in
          record {
            opening = safe_opening old (sees t) was.history (archive t).stand;
            made = λ no_fault.
                safely_made more was.history Begun new standing
                (subst (AreCodable 0) behind (kept.standing (none no_fault) (told t)).stand.codable)
                (taken t ∙ (calls (told t)).made (none no_fault ∙ sym unwounded) ∙ from t);
            broken = run_broken t;
            usable = λ own. load_moments g.id_of old was.history more own run_history (run_moments t);
            usable_broken = λ fault own.
                let b = run_broken t fault in
                load_moments g.id_of old was.history (more ++ b.breaks.event ∷ []) own (broken_history b.breaks.event b.breaks.may) b.moments;
          }

    -- the calls of loads one after the other, by their own events
    own_calls : (loads : List LoadedJob) → now.history ≡ was.history ++ all_own loads → MakesCalls g.id_of disks.file (IsNextOf g.id_of g.inputs loads now.history) was now
        → MakesCallsOf g.id_of disks.file (IsInDoubt g loads (was.history ++ all_own loads)) (all_own loads) was now
    own_calls loads behind calls =
        of_as g.id_of disks.file (IsNextOf g.id_of g.inputs loads now.history) (IsInDoubt g loads (was.history ++ all_own loads)) (all_own loads) was now
        (λ e next one. subst (λ (h : List Event). IsNextOf g.id_of g.inputs loads h e) behind next)
        (subst (λ (es : List Event). MakesCallsOf g.id_of disks.file (IsNextOf g.id_of g.inputs loads now.history) es was now) (append_cancel_left was.history calls.more (all_own loads) (sym calls.behind ∙ behind)) calls.calls)

    loaded_files : loader ≤ g.workers → (loads : List LoadedJob) → AreKeptLoads g disks loads was now → IsLoad g old new loads
    loaded_files some loads load =
        let behind = all_behind g.id_of g.inputs loads was.history now.history load.each in
        let calls = λ (t : disks.tells). own_calls loads behind (load.calls t) in
        let Next = IsInDoubt g loads (was.history ++ all_own loads) in
        let history : IsHistory g.id_of (was.history ++ all_own loads) = subst (IsHistory g.id_of) behind kept.history in
        let each : AreLoadsInTurn g.id_of g.inputs loads was.history (was.history ++ all_own loads) = subst (AreLoadsInTurn g.id_of g.inputs loads was.history) behind load.each in
        let shared = shared_in_turn g.id_of g.inputs loads was.history (was.history ++ all_own loads) each g.workers some in
        let lines = each_load g.id_of g.inputs was.history (was.history ++ all_own loads) history loads [] was.history (sym (append-nil was.history)) each in
        record {
          before = was.history;
          more = all_own loads;
          archive = archive;
          history = history;
          disks = λ t. subst (λ (h : List Event). LeavesDisks g.id_of (new 0) (new 1) h (outcomes loads)) behind (leaves_disks (outcomes loads) load.unwounded.0 load.unwounded.1 (all_own loads) behind Next calls t);
          calls = run_calls (outcomes loads) load.unwounded.0 load.unwounded.1 (all_own loads) behind Next calls;
          shared = shared;
          each = lines;
          stops = stops_in_turn g.id_of g.inputs loads was.history (was.history ++ all_own loads) each load.stops;
          numbered = λ distinct no_stop. all_numbered g.id_of g.inputs was.history (all_own loads) history loads (shared.alone no_stop) distinct lines loads lines;
          in_turn = λ one. record { each = each; stops = load.stops };
          held = all_held g.id_of was.history (all_own loads) history;
          visits = visits_stay g.id_of was.history (all_own loads) history;
          full_is_closed = all-sound g.id_of empty_archive (was.history ++ all_own loads) (empty-sound g.id_of) history;
        }

    unstarted : (answer : Answer) → IsUnstarted answer → (g.disks_tell → IsOnlyOpened old new) → IsUnloaded g.id_of g.disks_tell old new answer
    unstarted answer (inl clock) only =
        subst (IsUnloaded g.id_of g.disks_tell old new) (sym clock) (λ t. record { history = was.history; archive = archive t; opened = only t; safe = safe_opening old (sees t) was.history (archive t).stand })
    unstarted answer (inr memory) only = subst (IsUnloaded g.id_of g.disks_tell old new) (sym memory) (tt, λ t. inr (only t))

    pub run_files : loader ≤ g.workers → (jobs : List Job) (answer : Answer) → IsKeptRun g disks was now jobs answer
        → IsLoadedOrNot g old new jobs answer
    run_files some jobs answer (inl run) = inl (record { loads = run.loads; jobs_are = run.jobs_are; said = run.said; load = loaded_files some run.loads run.load; told = run.told })
    run_files some jobs answer (inr none) = inr (unstarted answer none.0 (λ t. taken t ∙ ap (kept_files disks.file) none.1 ∙ opened t))

  -- and they are not told of as damaged
  pub run_undamaged : (was now : Kept D) (jobs : List Job) (answer : Answer) → IsKeptRun g disks was now jobs answer → IsUndamaged answer
  run_undamaged was now jobs answer (inl run) = undamaged_load run.loads answer run.told
  run_undamaged was now jobs answer (inr none) = undamaged_start answer none.0

pub refused_unloaded : (id_of : Kind → List ℕ → List ℕ) (tells : Type 0) (old new : Files) (answer : Answer) → IsOpenRefusal answer → (tells → OpenEnds id_of old new answer) → IsUnloaded id_of tells old new answer
refused_unloaded id_of tells old new NotMade is ends = (tt, ends)
refused_unloaded id_of tells old new (Damaged text) is ends = (is, ends)
refused_unloaded id_of tells old new OutsideDisk is ends = (tt, ends)
refused_unloaded id_of tells old new Memory is ends = (tt, ends)
refused_unloaded id_of tells old new _ is ends = absurd is
