-- Of several causes against a load the first is told.
use Rattle.std.proofs.Common.{◌≡◌, ◌⊎◌, inl, inr, ⊎_elim, ℕ, List, refl, sym, ap, ◌∙◌, arith}
use Rattle.swh_outside.specs.Files.{Files}
use Rattle.swh_jobs.specs.Job.{Job}
use Rattle.swh_exit.specs.Seen.{FileAt, Span, DepotFailed, DeskFailed, SinkFailed}
use Rattle.swh_exit.specs.Answers.{TellsDisk, status_of}
use Rattle.swh_exit.specs.Run.{IsTold}
use Rattle.swh_program.specs.Jobs.{HasNoJobs}
use Rattle.swh_program.specs.Load.{Givens, IsLoadedOrNot, LoadEnds}
use Rattle.swh_exit.specs.Opening.{IsUnusable, IsOpenRefusal, OpenEnds}
use Rattle.swh_exit.specs.declared.answer.Answer.{Answer}
use Rattle.swh_exit.specs.declared.answer.Answer.TheVariants.{NotMade, Damaged, OutsideDisk, OutsideSource, OutsideClock, Memory}
use Rattle.swh_program.proofs.Archived.{usable}
use Rattle.swh_program.proofs.JobRefusals.{IsRefusedBy, jobs_or_none, refused_by}
use Rattle.swh_program.proofs.LoadAnswers.{unloaded_cases, unloaded_clock}

-- 4 is told for the answer, or for the sink
module _ (answer : Answer) (s : Span) (status : ℕ) where
  pub job_first : (status_of answer ≡ 4 → answer ≡ OutsideSource) → (answer ≡ OutsideSource → DeskFailed s) → IsTold answer s status → status ≡ 4 → DeskFailed s ⊎ SinkFailed s
  job_first only cause (inl printed) four = inl (cause (only (sym printed.status_is ∙ four)))
  job_first only cause (inr cut) four = inr cut.rose

  pub archive_first : (status_of answer ≡ 4 → TellsDisk answer ⊎ (answer ≡ OutsideSource)) → (TellsDisk answer → DepotFailed s) → (answer ≡ OutsideSource → DeskFailed s) → IsTold answer s status → status ≡ 4
      → DepotFailed s ⊎ DeskFailed s ⊎ SinkFailed s
  archive_first only disk desk (inl printed) four =
      ⊎_elim (λ (d : TellsDisk answer). inl (disk d)) (λ (t : answer ≡ OutsideSource). inr (inl (desk t))) (only (sym printed.status_is ∙ four))
  archive_first only disk desk (inr cut) four = inr (inr cut.rose)

-- an opening that is refused with 4 tells a disk
opening_disk : (answer : Answer) → IsOpenRefusal answer → status_of answer ≡ 4 → TellsDisk answer
opening_disk OutsideDisk is four = refl
opening_disk NotMade is four = absurd (omega (arith, four))
opening_disk (Damaged text) is four = absurd (omega (arith, four))
opening_disk Memory is four = absurd (omega (arith, four))
opening_disk _ is four = absurd is

module _ (g : Givens) (desk_at : FileAt) (path : List ℕ) (old new : Files) (inputs : g.inputs.tell) where
  abbrev Ends : Answer → Type 0
  Ends answer = LoadEnds g desk_at path old new answer

  source_alone : (answer : Answer) → IsRefusedBy desk_at path answer → status_of answer ≡ 4 → answer ≡ OutsideSource
  source_alone answer (inl (absent, is)) four = let two = ap status_of is in absurd (omega (arith, two, four))
  source_alone answer (inr (inl (text, told, is))) four = let two = ap status_of is in absurd (omega (arith, two, four))
  source_alone answer (inr (inr (inl source))) four = source
  source_alone answer (inr (inr (inr memory))) four = let five = ap status_of memory in absurd (omega (arith, five, four))

  -- where a job file is refused, 4 is for the desk
  pub refused_job : HasNoJobs desk_at path → (answer : Answer) → Ends answer → status_of answer ≡ 4 → answer ≡ OutsideSource
  refused_job cause answer (inl run) four = absurd (jobs_or_none desk_at path run.jobs (run.there inputs) cause)
  refused_job cause answer (inr none) four = source_alone answer (refused_by desk_at path answer (none.refused inputs)) four

  -- where an archive is refused, 4 is for the desk or for a disk
  module _ (disks : g.disks_tell) (cause : IsUnusable g.id_of old) where
    refused_outcome : (answer : Answer) (jobs : List Job) → IsLoadedOrNot g old new jobs answer → status_of answer ≡ 4 → TellsDisk answer
    refused_outcome answer jobs (inl loaded) four = absurd (usable g.id_of old loaded.load.before (loaded.load.archive disks) cause)
    refused_outcome answer jobs (inr none) four =
        ⊎_elim
        (λ (clock : answer ≡ OutsideClock). let opened = unloaded_clock g.id_of g.disks_tell old new answer clock none disks in absurd (usable g.id_of old opened.history opened.archive cause))
        (λ (refused : IsOpenRefusal answer × (g.disks_tell → OpenEnds g.id_of old new answer)). opening_disk answer refused.0 four)
        (unloaded_cases g.id_of g.disks_tell old new answer none)

    pub refused_archive : (answer : Answer) → Ends answer → status_of answer ≡ 4 → TellsDisk answer ⊎ (answer ≡ OutsideSource)
    refused_archive answer (inl run) four = inl (refused_outcome answer run.jobs run.outcome four)
    refused_archive answer (inr none) four = inr (source_alone answer (refused_by desk_at path answer (none.refused inputs)) four)
