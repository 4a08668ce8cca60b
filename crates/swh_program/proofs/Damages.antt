-- The line of a first harm, where there is one.
use Rattle.std.proofs.Common.{◌≡◌, ◌⊎◌, inl, inr, ⊎_elim, ℕ, List, refl, ap, ap₂, ◌∙◌}
use Rattle.std.proofs.lemmas.List.{append-nil}
use Rattle.swh_base.specs.declared.kind.Kind.{Kind}
use Rattle.swh_outside.specs.Files.{Files}
use Rattle.swh_jobs.specs.Job.{Job}
use Rattle.swh_keeper.proofs.DamageLemmas.{one_damage}
use Rattle.swh_exit.specs.Seen.{FileAt}
use Rattle.swh_exit.specs.Answers.{status_of}
use Rattle.swh_exit.specs.Damage.{damaged_line, IsHarmedAt, TellsHarm}
use Rattle.swh_program.specs.Jobs.{HasJobs}
use Rattle.swh_program.specs.Load.{Givens, IsLoadedOrNot, LoadEnds}
use Rattle.swh_exit.specs.Opening.{IsOpenRefusal, OpenEnds}
use Rattle.swh_exit.specs.declared.answer.Answer.{Answer}
use Rattle.swh_exit.specs.declared.answer.Answer.TheVariants.{NotMade, Damaged, OutsideDisk, OutsideSource, OutsideClock, Memory}
use Rattle.swh_program.proofs.Archived.{not_both, usable, no_archive}
use Rattle.swh_exit.proofs.Statuses.{Tells}
use Rattle.swh_program.proofs.JobRefusals.{refusal_of_jobs}
use Rattle.swh_program.proofs.LoadAnswers.{unloaded_cases}

module _ (id_of : Kind → List ℕ → List ℕ) (old : Files) (file at : ℕ) (harmed : IsHarmedAt id_of old file at) where
  -- the line of the answer: it is told, unless a part of the outside failed or memory ran out
  abbrev pub IsLineOfHarm : Answer → Type 0
  IsLineOfHarm answer = (status_of answer ≡ 4) ⊎ Tells (damaged_line file at) 3 answer

  -- there is one first harm
  told_line : (text : List ℕ) → TellsHarm id_of old text → text ≡ damaged_line file at
  told_line text t =
      let one = one_damage id_of (old 0).seen (old 1).seen t.file t.at file at t.harmed.0 harmed.0 t.harmed.1 harmed.1 in
      t.text_is ∙ ap₂ damaged_line one.0 one.1

  module _ (new : Files) where
    pub refusal_harm : (answer : Answer) → OpenEnds id_of old new answer → IsLineOfHarm answer
    refusal_harm NotMade ends = absurd (not_both (old 0).seen (no_archive id_of old file at harmed).made ends.0)
    refusal_harm (Damaged text) ends = inr (inr (refl, append-nil text ∙ told_line text ends.0))
    refusal_harm OutsideDisk ends = inl refl
    refusal_harm Memory ends = inr (inl refl)
    refusal_harm _ ends = absurd ends

-- the same of `load`, where the job file is right
module _ (g : Givens) (old new : Files) (file at : ℕ) (harmed : IsHarmedAt g.id_of old file at) (disks : g.disks_tell) where
  outcome_harm : (jobs : List Job) (answer : Answer) → IsLoadedOrNot g old new jobs answer → IsLineOfHarm g.id_of old file at harmed answer
  outcome_harm jobs answer (inl loaded) = absurd (usable g.id_of old loaded.load.before (loaded.load.archive disks) (inr (no_archive g.id_of old file at harmed)))
  outcome_harm jobs answer (inr none) =
      ⊎_elim
      (λ (clock : answer ≡ OutsideClock). inl (ap status_of clock))
      (λ (refused : IsOpenRefusal answer × (g.disks_tell → OpenEnds g.id_of old new answer)). refusal_harm g.id_of old file at harmed new answer (refused.1 disks))
      (unloaded_cases g.id_of g.disks_tell old new answer none)

  pub load_harm : (desk_at : FileAt) (path : List ℕ) → g.inputs.tell → HasJobs desk_at path → (answer : Answer) → LoadEnds g desk_at path old new answer → IsLineOfHarm g.id_of old file at harmed answer
  load_harm desk_at path inputs jobs answer (inl run) = outcome_harm run.jobs answer run.outcome
  load_harm desk_at path inputs jobs answer (inr none) =
      ⊎_elim
      (λ (source : answer ≡ OutsideSource). inl (ap status_of source))
      (λ (memory : answer ≡ Memory). inr (inl (ap status_of memory)))
      (refusal_of_jobs desk_at path jobs.0 jobs.1 answer (none.refused inputs))
