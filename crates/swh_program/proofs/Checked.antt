-- What a check means for `check`.
use Rattle.std.proofs.Common.{◌⊎◌, inl, inr, ℕ, ◌<◌, ◌≤◌, List, ap, arith}
use Rattle.swh_base.specs.declared.kind.Kind.{Kind}
use Rattle.swh_model.specs.Archive.{Archive}
use Rattle.swh_check.specs.Counts.{IsReport}
use Rattle.swh_check.specs.declared.report.Report.{Report}
use Rattle.swh_exit.specs.Seen.{Span}
use Rattle.swh_exit.specs.Answers.{TellsLine, status_of, status_for}
use Rattle.swh_program.specs.CheckCommand.{report_line, checking, DoesCheck}
use Rattle.swh_program.specs.Reading.{IsOfArchive, IsReadAnswer, Reads}
use Rattle.swh_exit.specs.Run.{IsTold}
use Rattle.swh_exit.specs.declared.answer.Ending.TheVariants as ending
use Rattle.swh_exit.specs.declared.answer.Answer.{Answer}
use Rattle.swh_exit.specs.declared.answer.Answer.TheVariants.{Told, NotMade, Damaged, OutsideDisk, OutsideYard, Memory}
use Rattle.swh_program.proofs.ReadOnly.{Settles, does_read}
use Rattle.swh_program.proofs.Statuses.{run_never}

module _ (id_of : Kind → List ℕ → List ℕ) where
  -- the line of a report tells the counts
  pub counted : (a : Archive) (report : Report) → IsReport a report → (answer : Answer) → TellsLine (report_line report) ending.Done answer → IsOfArchive (checking id_of) a answer
  counted a report counts (Told text end) told = (record { report = report; counts = counts; text_is = told.0 }, told.1)
  counted a report counts Memory told = tt
  counted a report counts _ told = absurd told

  pub check_settles : Settles (checking id_of)
  check_settles a text end told = inl told.1

  -- which statuses `check` has
  pub check_statuses : (answer : Answer) → IsReadAnswer id_of (checking id_of) answer → (status_of answer < 1) ⊎ (3 ≤ status_of answer)
  check_statuses (Told text end) is = let done = ap status_for is.is.1 in inl (omega (arith, done))
  check_statuses NotMade is = inr (omega arith)
  check_statuses (Damaged text) is = inr (omega arith)
  check_statuses OutsideDisk is = inr (omega arith)
  check_statuses OutsideYard is = inr (omega arith)
  check_statuses Memory is = inr (omega arith)
  check_statuses _ is = absurd is

pub does_check : (dir : List ℕ) (s : Span) (answer : Answer) (status : ℕ) → IsTold answer s status → Reads (checking s.id_of) dir s answer → DoesCheck dir s status
does_check dir s answer status told r = record {
  reads = does_read (checking s.id_of) (check_settles s.id_of) s answer status dir told r;
  not_wanting = run_never answer s status 1 3 (check_statuses s.id_of answer r.one_of) 1 (omega arith) (omega arith) (omega arith) told;
}
