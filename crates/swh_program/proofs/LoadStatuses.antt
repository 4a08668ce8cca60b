-- Each status of `load` comes exactly of its causes.
use Rattle.std.proofs.Common.{◌≡◌, ◌⊎◌, inl, inr, ⊎_elim, ℕ, ◌<◌, ◌≤◌, List, ◌++◌, Contains, refl, sym, ap, ◌∙◌, subst, arith}
use Rattle.std.specs.List.{AllByRecursion, flat_map}
use Rattle.std.proofs.lemmas.List.{append-nil}
use Rattle.swh_outside.specs.Files.{Files}
use Rattle.swh_jobs.specs.Job.{Job}
use Rattle.swh_jobs.specs.declared.fault.JobWhy.{JobWhy}
use Rattle.swh_model.specs.declared.event.Event.{Event}
use Rattle.swh_model.specs.Grows.{IsWithin}
use Rattle.swh_model.specs.Step.{replay}
use Rattle.swh_exit.specs.Seen.{FileAt, Span}
use Rattle.swh_exit.specs.Answers.{status_of, status_for, printed_by, IsPrinted}
use Rattle.swh_program.specs.Causes.{IsFullLine, HasShortLine, IsBadInput}
use Rattle.swh_exit.specs.Run.{ComesTo, IsExactly}
use Rattle.swh_exit.specs.Archives.{old_archive, new_archive}
use Rattle.swh_program.specs.LoadCommand.{givens_of, IsByLines}
use Rattle.swh_program.specs.Found.{found_at}
use Rattle.swh_program.specs.Jobs.{AreJobsAt, HasJobs, HasNoJobs, IsBadAt, IsJobRefusal, bad_job_line}
use Rattle.swh_program.specs.Lines.{LoadedJob, outcomes, load_line, ending_of_all, TellsLoads}
use Rattle.swh_program.specs.Load.{Givens, AreLoadedJobs, IsUnloaded, IsLoadedOrNot, LoadEnds, IsJobsRun, IsNoJobsRun}
use Rattle.swh_exit.specs.Opening.{IsArchive, IsUnusable, IsOpenRefusal, OpenEnds}
use Rattle.swh_exit.specs.declared.answer.Ending.{Ending}
use Rattle.swh_exit.specs.declared.answer.Ending.TheVariants as ending
use Rattle.swh_exit.specs.declared.answer.Answer.{Answer}
use Rattle.swh_exit.specs.declared.answer.Answer.TheVariants.{Told, NoJobFile, BadJob, OutsideDisk, OutsideSource, OutsideClock, Memory}
use Rattle.swh_program.proofs.Archived.{one_archive, usable, opening_of_archive}
use Rattle.swh_program.proofs.BadInputs.{bad_undone}
use Rattle.swh_exit.proofs.Statuses.{Tells, told_status}
use Rattle.swh_program.proofs.LoadEndings.{one_done, one_wanting, line_alone, undone, all_full, full_all, one_short, short_undone}
use Rattle.swh_program.proofs.Exacts.{refusal_exactly, refusal_comes}
use Rattle.swh_program.proofs.JobRefusals.{IsRefusedBy, one_list, jobs_or_none, jobs_or_bad, refused_by, refusal_of_jobs, refusal_of_bad}
use Rattle.swh_program.proofs.LoadAnswers.{told_of, unloaded_cases}

-- What an answer says that tells loads.
module _ (loads : List LoadedJob) where
  pub tells_status : (text : List ℕ) (end : Ending) (answer : Answer) → answer ≡ Told text end → (status_of answer < 2) ⊎ (4 ≤ status_of answer)
  tells_status text end answer is = subst (λ (a : Answer). (status_of a < 2) ⊎ (4 ≤ status_of a)) (sym is) (told_status end)

  exact_short : (end : Ending) → end ≡ ending_of_all (outcomes loads) → IsExactly 1 (HasShortLine (outcomes loads)) (status_for end)
  exact_short end is = record {
    only = λ e. one_short (outcomes loads) (sym is ∙ one_wanting end e);
    there = λ short. undone end (λ e. short_undone (outcomes loads) short (sym is ∙ e));
  }

  exact_full : (end : Ending) → end ≡ ending_of_all (outcomes loads) → IsExactly 0 (AllByRecursion IsFullLine (outcomes loads)) (status_for end)
  exact_full end is = record {
    only = λ e. all_full (outcomes loads) (sym is ∙ one_done end e);
    there = λ full. inl (ap status_for (is ∙ full_all (outcomes loads) full));
  }

  -- their lines, with the status
  pub record IsLinesTold (answer : Answer) : Type 0 where
    pub lines : printed_by answer ≡ flat_map load_line loads
    pub full : IsExactly 0 (AllByRecursion IsFullLine (outcomes loads)) (status_of answer)
    pub short : IsExactly 1 (HasShortLine (outcomes loads)) (status_of answer)

  lines_told : (text : List ℕ) (end : Ending) → TellsLoads loads text end → status_for end < 2 → IsLinesTold (Told text end)
  lines_told text end tells less = record { lines = line_alone text end less ∙ tells.text_is; full = exact_full end tells.end_is; short = exact_short end tells.end_is }

  -- loads that are not all done
  not_done : (text : List ℕ) (end : Ending) → TellsLoads loads text end → (ending_of_all (outcomes loads) ≡ ending.Done → ⊥) → ComesTo 1 (status_for end)
  not_done text end tells apart = undone end (λ e. apart (sym tells.end_is ∙ e))

-- a refused job file
no_job_status : (answer : Answer) → IsJobRefusal answer → (status_of answer ≡ 2) ⊎ (4 ≤ status_of answer)
no_job_status NoJobFile is = inl refl
no_job_status (BadJob text) is = inl refl
no_job_status OutsideSource is = inr (omega arith)
no_job_status Memory is = inr (omega arith)
no_job_status _ is = absurd is

module _ (desk_at : FileAt) (path : List ℕ) (answer : Answer) where
  no_job_comes : IsRefusedBy desk_at path answer → ComesTo 2 (status_of answer)
  no_job_comes (inl (absent, is)) = inl (ap status_of is)
  no_job_comes (inr (inl (text, told, is))) = inl (ap status_of is)
  no_job_comes (inr (inr (inl source))) = inr (inl (ap status_of source))
  no_job_comes (inr (inr (inr memory))) = inr (inr (ap status_of memory))

  no_job_why : IsRefusedBy desk_at path answer → status_of answer ≡ 2 → HasNoJobs desk_at path
  no_job_why (inl (absent, is)) e = inl absent
  no_job_why (inr (inl (text, told, is))) e = inr (told.line, told.why, told.bad)
  no_job_why (inr (inr (inl source))) e = let four = ap status_of source in absurd (omega (arith, four, e))
  no_job_why (inr (inr (inr memory))) e = let five = ap status_of memory in absurd (omega (arith, five, e))

-- What a run of `load` comes to.
module _ (g : Givens) (desk_at : FileAt) (path : List ℕ) (old new : Files) where
  abbrev Ends : Answer → Type 0
  Ends answer = LoadEnds g desk_at path old new answer

  -- jobs that are not loaded are told as refused by the archive, or as a part of the outside, or as memory
  unloaded_comes : (answer : Answer) → IsUnloaded g.id_of g.disks_tell old new answer → ComesTo 3 (status_of answer)
  unloaded_comes answer is =
      ⊎_elim (λ (clock : answer ≡ OutsideClock). inr (inl (ap status_of clock))) (λ (refused : IsOpenRefusal answer × (g.disks_tell → OpenEnds g.id_of old new answer)). refusal_comes g.id_of old new answer refused.0) (unloaded_cases g.id_of g.disks_tell old new answer is)

  three_up : (status : ℕ) → ComesTo 3 status → 3 ≤ status
  three_up status (inl three) = omega (arith, three)
  three_up status (inr (inl four)) = omega (arith, four)
  three_up status (inr (inr five)) = omega (arith, five)

  loaded_status : (answer : Answer) (jobs : List Job) → AreLoadedJobs g old new jobs answer → (status_of answer < 2) ⊎ (4 ≤ status_of answer)
  loaded_status answer jobs loaded = let told = told_of loaded.loads answer loaded.told in tells_status loaded.loads told.0 told.1 answer told.3

  -- 2 and 3 are not the status of jobs that were loaded
  outcome_not_two : (answer : Answer) (jobs : List Job) → IsLoadedOrNot g old new jobs answer → status_of answer ≡ 2 → ⊥
  outcome_not_two answer jobs (inl loaded) e =
      ⊎_elim (λ (less : status_of answer < 2). omega (arith, less, e)) (λ (more : 4 ≤ status_of answer). omega (arith, more, e)) (loaded_status answer jobs loaded)
  outcome_not_two answer jobs (inr none) e = let more = three_up (status_of answer) (unloaded_comes answer none) in omega (arith, more, e)

  -- 2
  pub load_job : g.inputs.tell → (answer : Answer) → Ends answer → IsExactly 2 (HasNoJobs desk_at path) (status_of answer)
  load_job inputs answer (inl run) = record {
    only = λ e. absurd (outcome_not_two answer run.jobs run.outcome e);
    there = λ none. absurd (jobs_or_none desk_at path run.jobs (run.there inputs) none);
  }
  load_job inputs answer (inr none) = record { only = no_job_why desk_at path answer (refused_by desk_at path answer (none.refused inputs)); there = λ _. no_job_comes desk_at path answer (refused_by desk_at path answer (none.refused inputs)) }

  -- the line that breaks is told
  pub load_bad : g.inputs.tell → (line : ℕ) (why : JobWhy) → IsBadAt desk_at path line why → (answer : Answer) → Ends answer → (status_of answer ≡ 4) ⊎ Tells (bad_job_line line why) 2 answer
  load_bad inputs line why bad answer (inl run) = absurd (jobs_or_bad desk_at path run.jobs line why (run.there inputs) bad)
  load_bad inputs line why bad answer (inr none) = at (refusal_of_bad desk_at path line why bad answer (none.refused inputs))
    where
      at : (answer ≡ BadJob (bad_job_line line why)) ⊎ (answer ≡ OutsideSource) ⊎ (answer ≡ Memory) → (status_of answer ≡ 4) ⊎ Tells (bad_job_line line why) 2 answer
      at (inl told) = inr (inr (ap status_of told, ap printed_by told ∙ append-nil (bad_job_line line why)))
      at (inr (inl source)) = inl (ap status_of source)
      at (inr (inr memory)) = inr (inl (ap status_of memory))

  -- 3
  outcome_only : g.disks_tell → (answer : Answer) (jobs : List Job) → IsLoadedOrNot g old new jobs answer → status_of answer ≡ 3 → IsUnusable g.id_of old
  outcome_only disks answer jobs (inl loaded) e =
      absurd (⊎_elim (λ (less : status_of answer < 2). omega (arith, less, e)) (λ (more : 4 ≤ status_of answer). omega (arith, more, e)) (loaded_status answer jobs loaded))
  outcome_only disks answer jobs (inr none) e =
      ⊎_elim
      (λ (clock : answer ≡ OutsideClock). let four = ap status_of clock in absurd (omega (arith, four, e)))
      (λ (refused : IsOpenRefusal answer × (g.disks_tell → OpenEnds g.id_of old new answer)). (refusal_exactly g.id_of old new answer refused.0 (refused.1 disks)).only e)
      (unloaded_cases g.id_of g.disks_tell old new answer none)

  outcome_there : g.disks_tell → (answer : Answer) (jobs : List Job) → IsLoadedOrNot g old new jobs answer → IsUnusable g.id_of old → ComesTo 3 (status_of answer)
  outcome_there disks answer jobs (inl loaded) unusable = absurd (usable g.id_of old loaded.load.before (loaded.load.archive disks) unusable)
  outcome_there disks answer jobs (inr none) unusable = unloaded_comes answer none

  -- a right job file that is refused comes by the desk or by memory
  right_comes : g.inputs.tell → (answer : Answer) → IsNoJobsRun g desk_at path old new answer → (jobs : List Job) → AreJobsAt desk_at path jobs → (expected : ℕ) → ComesTo expected (status_of answer)
  right_comes inputs answer none jobs there expected =
      ⊎_elim (λ (source : answer ≡ OutsideSource). inr (inl (ap status_of source))) (λ (memory : answer ≡ Memory). inr (inr (ap status_of memory))) (refusal_of_jobs desk_at path jobs there answer (none.refused inputs))

  pub load_archive : g.inputs.tell → g.disks_tell → (answer : Answer) → Ends answer → IsExactly 3 (HasJobs desk_at path × IsUnusable g.id_of old) (status_of answer)
  load_archive inputs disks answer (inl run) = record {
    only = λ e. ((run.jobs, run.there inputs), outcome_only disks answer run.jobs run.outcome e);
    there = λ cause. outcome_there disks answer run.jobs run.outcome cause.1;
  }
  load_archive inputs disks answer (inr none) = record {
    only = λ e. absurd (⊎_elim (λ (two : status_of answer ≡ 2). omega (arith, two, e)) (λ (more : 4 ≤ status_of answer). omega (arith, more, e)) (no_job_status answer none.one_of));
    there = λ cause. right_comes inputs answer none cause.0.0 cause.0.1 3;
  }

  -- 0 and 1
  loaded_lines : (answer : Answer) (jobs : List Job) (loaded : AreLoadedJobs g old new jobs answer) → status_of answer < 2 → IsLinesTold loaded.loads answer
  loaded_lines answer jobs loaded less =
      let told = told_of loaded.loads answer loaded.told in
      subst (IsLinesTold loaded.loads) (sym told.3) (lines_told loaded.loads told.0 told.1 told.2 (subst (λ (a : Answer). status_of a < 2) told.3 less))

  -- a bad input
  module _ (inputs : g.inputs.tell) (disks : g.disks_tell) (before : List Event) (archive : IsArchive g.id_of old before) where
    outcome_bad : (answer : Answer) (jobs : List Job) (job : Job) → Contains jobs job → IsLoadedOrNot g old new jobs answer → IsBadInput g.id_of (replay before).bodies (found_at g.inputs.files g.inputs.folders job.input) → ComesTo 1 (status_of answer)
    outcome_bad answer jobs job among (inl loaded) bad =
        let told = told_of loaded.loads answer loaded.told in
        let load = loaded.load in
        let same : before ≡ load.before = one_archive g.id_of old before load.before archive (load.archive disks) in
        subst (λ (a : Answer). ComesTo 1 (status_of a)) (sym told.3)
        (not_done loaded.loads told.0 told.1 told.2
        (bad_undone g.id_of g.inputs inputs (replay before).bodies load.before (load.before ++ load.more) (subst (λ (h : List Event). IsWithin (replay h).bodies (replay (load.before ++ load.more)).bodies) (sym same) load.held) loaded.loads load.each job
        (subst (λ (js : List Job). Contains js job) (sym loaded.jobs_are) among) bad))
    outcome_bad answer jobs job among (inr none) bad =
        ⊎_elim
        (λ (clock : answer ≡ OutsideClock). inr (inl (ap status_of clock)))
        (λ (refused : IsOpenRefusal answer × (g.disks_tell → OpenEnds g.id_of old new answer)).
        ⊎_elim (λ (disk : answer ≡ OutsideDisk). inr (inl (ap status_of disk))) (λ (memory : answer ≡ Memory). inr (inr (ap status_of memory))) (opening_of_archive g.id_of old new before archive answer refused.0 (refused.1 disks)))
        (unloaded_cases g.id_of g.disks_tell old new answer none)

    pub load_input : (jobs : List Job) (job : Job) → AreJobsAt desk_at path jobs → Contains jobs job → IsBadInput g.id_of (replay before).bodies (found_at g.inputs.files g.inputs.folders job.input) → (answer : Answer) → Ends answer → ComesTo 1 (status_of answer)
    load_input jobs job there among bad answer (inl run) =
        outcome_bad answer run.jobs job (subst (λ (js : List Job). Contains js job) (one_list desk_at path jobs run.jobs there (run.there inputs)) among) run.outcome bad
    load_input jobs job there among bad answer (inr none) = right_comes inputs answer none jobs there 1

-- the lines that a run of `load` prints
module _ (dir path : List ℕ) (s : Span) (answer : Answer) (status : ℕ) where
  printed_lines : (run : IsJobsRun (givens_of s) s.old.desk.file_at path (old_archive dir s) (new_archive dir s) answer) → IsPrinted answer s.told.sink s.old.sink.taken s.new.sink.taken status → status < 2
      → IsLoadedOrNot (givens_of s) (old_archive dir s) (new_archive dir s) run.jobs answer → IsByLines dir path s status
  printed_lines run printed less (inl loaded) =
      let is = printed.status_is in
      let told = loaded_lines (givens_of s) s.old.desk.file_at path (old_archive dir s) (new_archive dir s) answer run.jobs loaded (omega (arith, is, less)) in
      record {
        loads = loaded.loads;
        jobs = λ inputs. subst (AreJobsAt s.old.desk.file_at path) (sym loaded.jobs_are) (run.there inputs);
        load = loaded.load;
        printed = λ t. printed.printed t ∙ ap (λ (l : List ℕ). s.old.sink.taken ++ l) told.lines;
        full = subst (IsExactly 0 (AllByRecursion IsFullLine (outcomes loaded.loads))) (sym is) told.full;
        short = subst (IsExactly 1 (HasShortLine (outcomes loaded.loads))) (sym is) told.short;
      }
  printed_lines run printed less (inr none) =
      let more = three_up (givens_of s) s.old.desk.file_at path (old_archive dir s) (new_archive dir s) (status_of answer) (unloaded_comes (givens_of s) s.old.desk.file_at path (old_archive dir s) (new_archive dir s) answer none) in
      let is = printed.status_is in
      absurd (omega (arith, is, more, less))

  pub load_lines : LoadEnds (givens_of s) s.old.desk.file_at path (old_archive dir s) (new_archive dir s) answer → IsPrinted answer s.told.sink s.old.sink.taken s.new.sink.taken status → status < 2 → IsByLines dir path s status
  load_lines (inl run) printed less = printed_lines run printed less run.outcome
  load_lines (inr none) printed less =
      let is = printed.status_is in
      absurd (⊎_elim (λ (two : status_of answer ≡ 2). omega (arith, is, two, less)) (λ (more : 4 ≤ status_of answer). omega (arith, is, more, less)) (no_job_status answer none.one_of))
