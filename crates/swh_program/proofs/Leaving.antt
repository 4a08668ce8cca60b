-- What a load that is refused leaves alone.
use Rattle.std.proofs.Common.{◌≡◌, ⊎_elim, List}
use Rattle.swh_outside.specs.Files.{Files}
use Rattle.swh_jobs.specs.Job.{Job}
use Rattle.swh_exit.specs.Seen.{Span}
use Rattle.swh_exit.specs.Answers.{TellsDisk}
use Rattle.swh_program.specs.Jobs.{IsJobRefusal}
use Rattle.swh_exit.specs.LeftAlone.{IsOnDesk, IsRefusedInOrder}
use Rattle.swh_program.specs.Load.{Givens}
use Rattle.swh_exit.specs.declared.answer.Answer.{Answer}
use Rattle.swh_exit.specs.declared.answer.Answer.TheVariants.{NoJobFile, BadJob, OutsideDisk, OutsideSource, Memory}

-- a job file that is refused tells of no disk
pub no_disk_told : (answer : Answer) → IsJobRefusal answer → TellsDisk answer → ⊥
no_disk_told NoJobFile is tells = let e : NoJobFile ≡ OutsideDisk = tells in cc
no_disk_told (BadJob text) is tells = let e : BadJob text ≡ OutsideDisk = tells in cc
no_disk_told OutsideSource is tells = let e : OutsideSource ≡ OutsideDisk = tells in cc
no_disk_told Memory is tells = let e : Memory ≡ OutsideDisk = tells in cc
no_disk_told _ is tells = absurd is

module _ (s : Span) where
  -- a job file that is refused leaves all but the desk
  pub job_refused : IsOnDesk s → (answer : Answer) → IsJobRefusal answer → IsRefusedInOrder s answer
  job_refused only NoJobFile is = only
  job_refused only (BadJob text) is = only
  job_refused only OutsideSource is = only
  job_refused only Memory is = tt
  job_refused only _ is = absurd is
