-- The status of a run, from its answer, and the part that the answer names.
use Rattle.std.proofs.Common.{◌≡◌, ◌≢◌, ◌⊎◌, inl, inr, ℕ, ◌<◌, ◌≤◌, List, sym, ◌∙◌, subst, arith}
use Rattle.swh_base.specs.declared.kind.Kind.{Kind}
use Rattle.swh_exit.specs.Seen.{Span}
use Rattle.swh_exit.specs.Answers.{TellsDisk, status_of, IsPrinted}
use Rattle.swh_identify.specs.IdentifyCommand.{IsIdentifyAnswer}
use Rattle.swh_program.specs.InitCommand.{IsInitAnswer}
use Rattle.swh_exit.specs.Run.{ComesTo, IsExactly, IsTold}
use Rattle.swh_exit.specs.declared.answer.Ending.TheVariants as ending
use Rattle.swh_exit.specs.declared.answer.Answer.{Answer}
use Rattle.swh_exit.specs.declared.answer.Answer.TheVariants.{Told, OutsideDisk}

-- what an answer comes to, the run does
module _ (answer : Answer) (s : Span) (status : ℕ) where
  pub run_comes : (expected : ℕ) → ComesTo expected (status_of answer) → IsTold answer s status → ComesTo expected status
  run_comes expected comes (inl printed) = subst (ComesTo expected) (sym printed.status_is) comes
  run_comes expected comes (inr cut) = inr (inl cut.status_is)

  -- a sink that did not fail
  pub uncut : status ≢ 4 → IsTold answer s status → IsPrinted answer s.told.sink s.old.sink.taken s.new.sink.taken status
  uncut apart (inl printed) = printed
  uncut apart (inr cut) = absurd (apart cut.status_is)

  same_status : (expected : ℕ) → expected < 4 → IsTold answer s status → status ≡ expected → status_of answer ≡ expected
  same_status expected less told is = sym (uncut (λ four. omega (arith, four, is, less)) told).status_is ∙ is

  pub run_exactly : (expected : ℕ) (Cause : Type 0) → expected < 4 → IsExactly expected Cause (status_of answer) → IsTold answer s status → IsExactly expected Cause status
  run_exactly expected Cause less exact told = record { only = λ is. exact.only (same_status expected less told is); there = λ cause. run_comes expected (exact.there cause) told }

  -- a status below 4 that the answer's lies below or above of
  pub run_never : (low high : ℕ) → (status_of answer < low) ⊎ (high ≤ status_of answer) → (k : ℕ) → low ≤ k → k < high → k < 4 → IsTold answer s status → status ≢ k
  run_never low high (inl below) k from until less told is = let e = same_status k less told is in omega (arith, below, from, e)
  run_never low high (inr above) k from until less told is = let e = same_status k less told is in omega (arith, above, until, e)

-- `init` and `identify` name a disk alone
pub init_disk : (answer : Answer) → IsInitAnswer answer → TellsDisk answer → answer ≡ OutsideDisk
init_disk (Told text end) is tells = absurd is
init_disk _ is tells = tells

pub identify_disk : (id_of : Kind → List ℕ → List ℕ) (kind : Kind) (answer : Answer) → IsIdentifyAnswer id_of kind answer → TellsDisk answer → answer ≡ OutsideDisk
identify_disk id_of kind (Told text ending.Done) is tells = let e : ending.Done ≡ ending.OutsideDisk = tells in cc
identify_disk id_of kind (Told text ending.Wanting) is tells = let e : ending.Wanting ≡ ending.OutsideDisk = tells in cc
identify_disk id_of kind (Told text ending.OutsideDisk) is tells = absurd is.1
identify_disk id_of kind (Told text ending.Memory) is tells = absurd is.1
identify_disk id_of kind _ is tells = tells
