-- The device calls of loads, one after another.
use Rattle.std.proofs.Common.{◌≡◌, ℕ, ◌≤◌, Option, Some, None, Result, Ok, Err, List, [], ◌∷◌, ◌++◌, refl, sym, ap, ◌∙◌, subst, append_assoc, arith}
use Rattle.std.proofs.lemmas.List.Elements.{Contains-append_right}
use Rattle.swh_base.specs.declared.kind.Kind.{Kind}
use Rattle.swh_outside.specs.Views.{Disks}
use Rattle.swh_inputs.specs.Parts.{Parts}
use Rattle.swh_model.specs.declared.event.Event.{Event}
use Rattle.swh_keeper.specs.Kept.{Kept}
use Rattle.swh_jobs.specs.Job.{Job}
use Rattle.swh_keeper.specs.Calls.{MakesCallsOf, MakesCalls}
use Rattle.swh_keeperload.specs.Loading.{AreOfVisit, AddsVisit, IsHeldBack}
use Rattle.swh_ingest.specs.Visiting.{next_visit}
use Rattle.swh_loader.specs.declared.end.Loaded.{Loaded}
use Rattle.swh_ingest.specs.declared.end.LoadFault.{LoadFault}
use Rattle.swh_keeperload.proofs.Calls.{calls_none, of_as, of_further}
use Rattle.swh_pool.specs.Loads.{Loading, loading, attempt_at, AreAllowedAt, OneLoad, AreLoads}
use Rattle.swh_program.specs.Inputs.{loader, Inputs}
use Rattle.swh_program.specs.Dated.{IsOpenedJob}
use Rattle.swh_program.specs.Lines.{LoadedJob}
use Rattle.swh_program.specs.InTurn.{IsNextOf}
use Rattle.swh_program.proofs.Inputs.{of_jobs, adds_own, adds_of, loaded_job, loaded_jobs, Open}

-- a load on an archive whose disk had failed leaves it as it was
as_it_was : {D : Type 0} (old new : Kept D) (o : Result Loaded LoadFault) → IsHeldBack old new o → new ≡ old
as_it_was old new (Ok loaded) is = absurd is
as_it_was old new (Err fault) is = is.1.same

by_wound : {P : Type 0} (w : Option ℕ) → ((n : ℕ) → w ≡ Some n → P) → (w ≡ None → P) → P
by_wound (Some n) stopped going = stopped n refl
by_wound None stopped going = going refl

module _ {S F : Type 0} (id_of : Kind → List ℕ → List ℕ) (p : Parts S F) (opened_by : Inputs) (after : List ℕ → ℕ)
    (later : (q : List ℕ) → opened_by.failures q ≤ opened_by.failures_now q) (later_still : (q : List ℕ) → opened_by.failures_now q ≤ after q) {D : Type 0} (disks : Disks D) where
  abbrev from : Loading S F D
  from = loading id_of loader p disks

  abbrev All : List (OneLoad S F) → Kept D → Kept D → Type 0
  All loads old new = AreLoads from loads old new

  abbrev Next : List LoadedJob → List Event → Event → Type 0
  Next loads h event = IsNextOf id_of (of_jobs id_of p opened_by after later later_still) loads h event

  -- Once a disk has failed, all is left as it was.
  held_back : (loads : List (OneLoad S F)) (old new : Kept D) (n : ℕ) → old.wounded ≡ Some n → All loads old new → new ≡ old
  held_back [] old new n wounded are = are
  held_back (l ∷ loads) old new n wounded are =
      let same : are.0 ≡ old = as_it_was old are.0 l.outcome (are.1.wounded n wounded) in
      held_back loads are.0 new n (ap (λ (k : Kept D). k.wounded) same ∙ wounded) are.2 ∙ same

  among_more : (x : LoadedJob) (loads : List LoadedJob) (h : List Event) (e : Event) → Next loads h e → Next (x ∷ loads) h e
  among_more x loads h e next = record { l = next.l; among = Contains-append_right (x ∷ []) loads next.l next.among; between = next.between; adds = next.adds }

  -- what comes next in a load
  next_of : (job : Job) (l : OneLoad S F) (more : List LoadedJob) (old new : Kept D) (added : List Event) → IsOpenedJob p opened_by job l.job → new.history ≡ old.history ++ added
      → (e : Event) → AreOfVisit (AreAllowedAt from l) (attempt_at from l) (next_visit old.history l.job.job.origin) (added ++ e ∷ []) → Next (loaded_job job l ∷ more) new.history e
  next_of job l more old new added opened behind e are =
      let adds : AddsVisit (AreAllowedAt from l) (attempt_at from l) old.history (new.history ++ e ∷ []) =
      record { more = added ++ e ∷ []; behind = ap (λ (t : List Event). t ++ e ∷ []) behind ∙ append_assoc old.history added (e ∷ []); are = are } in
      record {
        l = loaded_job job l;
        among = (0, omega arith, refl);
        between = old.history;
        adds = adds_of id_of p opened_by after later later_still disks job l old.history (new.history ++ e ∷ []) opened adds;
      }

  pub calls_of : disks.tells → (jobs : List Job) (loads : List (OneLoad S F)) (old new : Kept D) → Open p opened_by jobs loads → All loads old new → old.wounded ≡ None → MakesCalls id_of disks.file (Next (loaded_jobs jobs loads) new.history) old new
  calls_of t [] [] old new opened are none = calls_none id_of disks.file (Next [] new.history) old new are
  calls_of t [] (l ∷ loads) old new opened are none = absurd opened
  calls_of t (job ∷ jobs) [] old new opened are none = absurd opened
  calls_of t (job ∷ jobs) (l ∷ loads) old new opened are none =
      let between = are.0 in
      let first = adds_own id_of p opened_by after later later_still disks l old between are.1 in
      let mine = Next (loaded_job job l ∷ loaded_jobs jobs loads) in
      let this : MakesCallsOf id_of disks.file _ first.more old between = are.1.calls t first.more first.behind in
      let stopped : (n : ℕ) → between.wounded ≡ Some n → MakesCalls id_of disks.file (mine new.history) old new = λ n some.
      let same : new ≡ between = held_back loads between new n some are.2 in
      subst (λ (k : Kept D). MakesCalls id_of disks.file (mine k.history) old k) (sym same)
      (record { more = first.more; behind = first.behind; calls = of_as id_of disks.file _ (mine between.history) first.more old between (next_of job l (loaded_jobs jobs loads) old between first.more opened.0 first.behind) this }) in
      let going : between.wounded ≡ None → MakesCalls id_of disks.file (mine new.history) old new = λ mid.
      let rest = calls_of t jobs loads between new opened.1 are.2 mid in
      record {
        more = first.more ++ rest.more;
        behind = rest.behind ∙ ap (λ (h : List Event). h ++ rest.more) first.behind ∙ append_assoc old.history first.more rest.more;
        calls = of_further id_of disks.file _ (Next (loaded_jobs jobs loads) new.history) (mine new.history) first.more rest.more old between new (among_more (loaded_job job l) (loaded_jobs jobs loads) new.history) none mid first.behind this rest.calls;
      } in
      by_wound between.wounded stopped going
