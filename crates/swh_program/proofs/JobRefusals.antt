-- What stands at the path of a job file: one list of jobs, or one first line that breaks.
use Rattle.std.proofs.Common.{◌≡◌, ◌⊎◌, inl, inr, ℕ, Some, None, List, refl, sym, ap, ◌∙◌, subst}
use Rattle.swh_jobs.specs.Job.{Job}
use Rattle.swh_jobs.specs.JobFile.{IsJobFile, IsJobFileFault}
use Rattle.swh_jobs.specs.declared.fault.JobWhy.{JobWhy}
use Rattle.swh_jobs.proofs.Exact.{one_reading_lem, one_fault_lem, no_jobs_lem}
use Rattle.swh_exit.specs.Seen.{FileAt}
use Rattle.swh_program.specs.Jobs.{AreJobsAt, HasNoJobs, IsBadAt, TellsBadJob, IsJobRefused, bad_job_line}
use Rattle.swh_exit.specs.declared.answer.Answer.{Answer}
use Rattle.swh_exit.specs.declared.answer.Answer.TheVariants.{NoJobFile, BadJob, OutsideSource, Memory}

module _ (desk_at : FileAt) (path : List ℕ) where
  -- the same bytes stand there
  same_bytes : (a b : List ℕ) → desk_at path ≡ Some a → desk_at path ≡ Some b → a ≡ b
  same_bytes a b at_a at_b = let both : Some a ≡ Some b = sym at_a ∙ at_b in cc

  pub one_list : (jobs others : List Job) → AreJobsAt desk_at path jobs → AreJobsAt desk_at path others → jobs ≡ others
  one_list jobs others a b = one_reading_lem b.bytes jobs others (subst (λ (t : List ℕ). IsJobFile t jobs) (same_bytes a.bytes b.bytes a.there b.there) a.are) b.are

  -- jobs have no line that breaks
  pub jobs_or_bad : (jobs : List Job) (line : ℕ) (why : JobWhy) → AreJobsAt desk_at path jobs → IsBadAt desk_at path line why → ⊥
  jobs_or_bad jobs line why a b = no_jobs_lem b.bytes line why jobs b.fault (subst (λ (t : List ℕ). IsJobFile t jobs) (same_bytes a.bytes b.bytes a.there b.there) a.are)

  jobs_or_absent : (jobs : List Job) → AreJobsAt desk_at path jobs → desk_at path ≡ None → ⊥
  jobs_or_absent jobs a absent = let both : Some a.bytes ≡ None = sym a.there ∙ absent in cc

  bad_or_absent : (line : ℕ) (why : JobWhy) → IsBadAt desk_at path line why → desk_at path ≡ None → ⊥
  bad_or_absent line why b absent = let both : Some b.bytes ≡ None = sym b.there ∙ absent in cc

  pub jobs_or_none : (jobs : List Job) → AreJobsAt desk_at path jobs → HasNoJobs desk_at path → ⊥
  jobs_or_none jobs a (inl absent) = jobs_or_absent jobs a absent
  jobs_or_none jobs a (inr (line, why, bad)) = jobs_or_bad jobs line why a bad

  -- the text that tells a first line that breaks
  bad_text : (line : ℕ) (why : JobWhy) (text : List ℕ) → IsBadAt desk_at path line why → TellsBadJob desk_at path text → text ≡ bad_job_line line why
  bad_text line why text b told =
      let one = one_fault_lem b.bytes told.line line told.why why (subst (λ (t : List ℕ). IsJobFileFault t told.line told.why) (same_bytes told.bad.bytes b.bytes told.bad.there b.there) told.bad.fault) b.fault in
      told.text_is ∙ ap (λ (n : ℕ). bad_job_line n told.why) one.0 ∙ ap (bad_job_line line) one.1

  -- why a job file is refused, by the answer
  abbrev pub IsRefusedBy : Answer → Type 0
  IsRefusedBy answer = ((desk_at path ≡ None) × (answer ≡ NoJobFile)) ⊎ ((text : List ℕ) × TellsBadJob desk_at path text × (answer ≡ BadJob text)) ⊎ (answer ≡ OutsideSource) ⊎ (answer ≡ Memory)

  pub refused_by : (answer : Answer) → IsJobRefused desk_at path answer → IsRefusedBy answer
  refused_by NoJobFile refused = inl (refused, refl)
  refused_by (BadJob text) refused = inr (inl (text, refused, refl))
  refused_by OutsideSource refused = inr (inr (inl refl))
  refused_by Memory refused = inr (inr (inr refl))
  refused_by _ refused = absurd refused

  -- jobs are refused for the desk or for memory alone
  pub refusal_of_jobs : (jobs : List Job) → AreJobsAt desk_at path jobs → (answer : Answer) → IsJobRefused desk_at path answer → (answer ≡ OutsideSource) ⊎ (answer ≡ Memory)
  refusal_of_jobs jobs a answer refused = at (refused_by answer refused)
    where
      at : IsRefusedBy answer → (answer ≡ OutsideSource) ⊎ (answer ≡ Memory)
      at (inl (absent, is)) = absurd (jobs_or_absent jobs a absent)
      at (inr (inl (text, told, is))) = absurd (jobs_or_bad jobs told.line told.why a told.bad)
      at (inr (inr other)) = other

  -- a line that breaks is told, unless the desk failed or memory ran out
  pub refusal_of_bad : (line : ℕ) (why : JobWhy) → IsBadAt desk_at path line why → (answer : Answer) → IsJobRefused desk_at path answer → (answer ≡ BadJob (bad_job_line line why)) ⊎ (answer ≡ OutsideSource) ⊎ (answer ≡ Memory)
  refusal_of_bad line why b answer refused = at (refused_by answer refused)
    where
      at : IsRefusedBy answer → (answer ≡ BadJob (bad_job_line line why)) ⊎ (answer ≡ OutsideSource) ⊎ (answer ≡ Memory)
      at (inl (absent, is)) = absurd (bad_or_absent line why b absent)
      at (inr (inl (text, told, is))) = inl (is ∙ ap BadJob (bad_text line why text b told))
      at (inr (inr other)) = inr other
