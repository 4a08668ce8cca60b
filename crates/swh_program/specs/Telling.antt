-- The answer that tells loads as they ended.
use Rattle.std.specs.Prelude.{◌≡◌, ℕ, Result, List}
use Rattle.swh_loader.specs.declared.end.Loaded.{Loaded}
use Rattle.swh_ingest.specs.declared.end.LoadFault.{LoadFault}
use Rattle.swh_pool.specs.Lines.{ended, lines_of}
use Rattle.swh_pool.specs.declared.dated.DatedJob.{DatedJob}
use Rattle.swh_program.specs.Lines.{ending_of_all}
use Rattle.swh_exit.specs.declared.answer.Answer.{Answer}
use Rattle.swh_exit.specs.declared.answer.Answer.TheVariants.{Told}

-- The answer tells the lines of these loads and the worst of their endings.
pub record TellsReport {S F : Type 0} (jobs : List (DatedJob S F)) (outcomes : List (Result Loaded LoadFault)) (answer : Answer) : Type 0 where
  pub text : List ℕ
  pub text_is : text ≡ lines_of (ended jobs outcomes)
  pub tells : answer ≡ Told text (ending_of_all outcomes)
