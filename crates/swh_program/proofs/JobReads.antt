-- What the reading of a front of a job file says of all of it.
use Rattle.std.specs.Prelude.{IfOk, IfErr}
use Rattle.std.proofs.Common.{◌≡◌, ⊎_elim, ℕ, ◌<◌, ◌≤◌, Some, Result, Ok, Err, List, ◌++◌, length, ap, ◌∙◌}
use Rattle.std.proofs.lemmas.Bool.{cases_lt}
use Rattle.std.proofs.lemmas.List.{append-nil}
use Rattle.swh_fastlex.specs.Whole.{IsFront}
use Rattle.swh_jobs.specs.Job.{Job}
use Rattle.swh_jobs.specs.JobFile.{IsJobFile}
use Rattle.swh_jobs.proofs.Lengths.{longest_lem, front_lem}
use Rattle.swh_exit.specs.Seen.{FileAt}
use Rattle.swh_program.specs.Jobs.{TellsFault, TellsBadJob, AreJobsAt, IsReadRefusal, IsJobRefused}
use Rattle.swh_exit.specs.declared.answer.Answer.{Answer}
use Rattle.swh_exit.specs.declared.answer.Answer.TheVariants.{BadJob, Memory}

-- A front of the file at a path was read, longer than any job file where it is not all of it.
module _ (file_at : FileAt) (path left now front : List ℕ) (there : file_at path ≡ Some left) (read : IsFront left now 2623744 front) where
  whole_at : length front ≤ 2623744 → file_at path ≡ Some front
  whole_at short = there ∙ ap (λ (bytes : List ℕ). Some bytes) (read.cut ∙ ap (λ (rest : List ℕ). front ++ rest) (read.whole short) ∙ append-nil front)

  pub jobs_at : (jobs : List Job) → IsJobFile front jobs → AreJobsAt file_at path jobs
  jobs_at jobs are = record { bytes = front; there = whole_at (longest_lem front jobs are); are = are }

  tells_bad : (text : List ℕ) → TellsFault front text → TellsBadJob file_at path text
  tells_bad text tells =
      ⊎_elim
      (λ (long : 2623744 < length front).
      let fault = front_lem front now tells.line tells.why long tells.fault in
      record { line = tells.line; why = tells.why; bad = record { bytes = front ++ now; there = there ∙ ap (λ (bytes : List ℕ). Some bytes) read.cut; fault = fault }; text_is = tells.text_is })
      (λ (short : length front ≤ 2623744). record { line = tells.line; why = tells.why; bad = record { bytes = front; there = whole_at short; fault = tells.fault }; text_is = tells.text_is })
      (cases_lt 2623744 (length front))

  pub refused_at : (answer : Answer) → IsReadRefusal front answer → IsJobRefused file_at path answer
  refused_at (BadJob text) is = tells_bad text is
  refused_at Memory is = tt
  refused_at _ is = absurd is

  -- The reader's answer on the front.
  pub jobs_read : {V : Type 0} (jobs_in : V → List Job) (result : Result V Answer) → IfOk result (λ v. IsJobFile front (jobs_in v)) → IfOk result (λ v. AreJobsAt file_at path (jobs_in v))
  jobs_read jobs_in (Ok v) are = jobs_at (jobs_in v) are
  jobs_read jobs_in (Err answer) are = tt

  pub refusal_read : {V : Type 0} (result : Result V Answer) → IfErr result (λ answer. IsReadRefusal front answer) → IfErr result (λ answer. IsJobRefused file_at path answer)
  refusal_read (Ok v) is = tt
  refusal_read (Err answer) is = refused_at answer is
