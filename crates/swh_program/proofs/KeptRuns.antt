-- What the loads of opened inputs come to for an archive that is open.
use Rattle.std.specs.Prelude.{◌↔◌, IfOk, OnErr}
use Rattle.std.proofs.Common.{◌≡◌, inl, inr, ℕ, ◌≤◌, false, Option, None, is_some, Result, Ok, Err, List, map, sym, ap, ◌∙◌, subst}
use Rattle.swh_outside.specs.Views.{Disks}
use Rattle.swh_inputs.specs.Parts.{Parts}
use Rattle.swh_keeper.specs.Kept.{Kept}
use Rattle.swh_jobs.specs.Job.{Job}
use Rattle.swh_loader.specs.declared.end.Loaded.{Loaded}
use Rattle.swh_ingest.specs.declared.end.LoadFault.{LoadFault}
use Rattle.swh_pool.specs.Lines.{ended, lines_of}
use Rattle.swh_pool.specs.Loads.{loading, AreLoaded}
use Rattle.swh_pool.specs.Stops.{AreStops, HaveNoDiskFault}
use Rattle.swh_pool.specs.declared.dated.DatedJob.{DatedJob}
use Rattle.swh_program.specs.Inputs.{loader, Inputs, inputs}
use Rattle.swh_program.specs.Load.{Givens}
use Rattle.swh_program.specs.Dated.{AreSaid, AreOpenedJobs, AreGivenBack}
use Rattle.swh_program.specs.Lines.{LoadedJob, dates, outcomes, ending_of_all}
use Rattle.swh_program.specs.Loading.{AreKeptLoads, IsKeptRun}
use Rattle.swh_program.specs.Telling.{TellsReport}
use Rattle.swh_exit.specs.declared.answer.Answer.{Answer}
use Rattle.swh_exit.specs.declared.answer.Answer.TheVariants.{Told, Memory}
use Rattle.swh_program.proofs.Inputs.{loaded_jobs, each_job, same_jobs, same_dates, same_outcomes, same_ended, url_and_outcome}
use Rattle.swh_program.proofs.Endings.{raised, told_loads}
use Rattle.swh_program.proofs.Calling.{calls_of}

module _ {S F : Type 0} (p : Parts S F) (g : Givens) (middle : List ℕ → ℕ) (later : (q : List ℕ) → g.inputs.failures q ≤ middle q) (later_still : (q : List ℕ) → middle q ≤ g.inputs.failures_now q)
    {D : Type 0} (disks : Disks D) (jobs : List Job) (dated now : List (DatedJob S F)) (old new : Kept D) (unwounded : old.wounded ≡ None)
    (opened : AreOpenedJobs p (inputs g.inputs.tell g.inputs.files g.inputs.folders g.inputs.failures middle) jobs dated) (back : AreGivenBack p middle g.inputs.failures_now now) (said : g.clock_tells → AreSaid g.time (map (λ j. j.date) dated)) where
  abbrev opened_by : Inputs
  opened_by = inputs g.inputs.tell g.inputs.files g.inputs.folders g.inputs.failures middle

  abbrev Run : Answer → Type 0
  Run answer = IsKeptRun g disks old new jobs answer

  loaded_run : (ends : List (Result Loaded LoadFault)) (answer : Answer) → AreLoaded (loading g.id_of loader p disks) dated now old new ends → AreStops (is_some old.wounded) ends
      → (new.wounded ≡ None) ↔ ((old.wounded ≡ None) × HaveNoDiskFault ends) → TellsReport now ends answer → Run answer
  loaded_run ends answer are stops wounds told =
      let loads = are.loads in
      let open_jobs = subst (λ (d : List (DatedJob S F)). AreOpenedJobs p opened_by jobs d) are.jobs opened in
      let given_back = subst (λ (d : List (DatedJob S F)). AreGivenBack p middle g.inputs.failures_now d) are.after back in
      let all : List LoadedJob = loaded_jobs jobs loads in
      let ends_are : outcomes all ≡ map (λ l. l.outcome) loads = same_outcomes p opened_by jobs loads open_jobs in
      let as_told : ends ≡ outcomes all = are.ended ∙ sym ends_are in
      let stops_are : AreStops false ends = subst (λ (w : Option ℕ). AreStops (is_some w) ends) unwounded stops in
      let dates_are : dates all ≡ map (λ j. j.date) dated =
      same_dates p opened_by jobs loads open_jobs ∙ ap (λ (d : List (DatedJob S F)). map (λ j. j.date) d) (sym are.jobs) in
      let pairs : ended now ends ≡ map url_and_outcome all =
      (λ i. ended (are.after i) (are.ended i)) ∙ same_ended p opened_by (loading g.id_of loader p disks) jobs loads old new open_jobs are.each in
      let load : AreKeptLoads g disks all old new = record {
        each = each_job g.id_of p opened_by g.inputs.failures_now later later_still disks jobs loads old new open_jobs given_back are.each;
        stops = subst (AreStops false) as_told stops_are;
        unwounded = (λ none. subst HaveNoDiskFault as_told (wounds.0 none).1, λ no_fault. wounds.1 (unwounded, subst HaveNoDiskFault (sym as_told) no_fault));
        rose = λ e. raised (loading g.id_of loader p disks) loads old new are.each (subst (AreStops false) are.ended stops_are) (ap ending_of_all (sym ends_are) ∙ e);
        calls = λ t. calls_of g.id_of p opened_by g.inputs.failures_now later later_still disks t jobs loads old new open_jobs are.each unwounded;
      } in
      inl (record {
        loads = all;
        jobs_are = same_jobs p opened_by jobs loads open_jobs;
        said = λ t. subst (AreSaid g.time) (sym dates_are) (said t);
        load = load;
        told = told_loads now ends all answer pairs as_told told;
      })

  pub kept_run : {V E : Type 0} (items : V → List (Result Loaded LoadFault)) (text : V → List ℕ) (loaded : Result V E) (answer : Answer) → IfOk loaded (λ v. AreLoaded (loading g.id_of loader p disks) dated now old new (items v))
      → IfOk loaded (λ v. AreStops (is_some old.wounded) (items v)) → IfOk loaded (λ v. (new.wounded ≡ None) ↔ ((old.wounded ≡ None) × HaveNoDiskFault (items v))) → IfOk loaded (λ v. text v ≡ lines_of (ended now (items v))) → OnErr loaded (new ≡ old)
      → IfOk loaded (λ v. answer ≡ Told (text v) (ending_of_all (items v))) → OnErr loaded (answer ≡ Memory) → Run answer
  kept_run items text (Ok v) answer are stops wounds lines same told memory = loaded_run (items v) answer are stops wounds (record { text = text v; text_is = lines; tells = told })
  kept_run items text (Err e) answer are stops wounds lines same told memory = inr (inr memory, same)
