-- Where nothing stands against a command, it is done, or memory runs out.
use Rattle.std.proofs.Common.{◌≡◌, ◌⊎◌, inl, inr, ℕ, List, ◌++◌, refl, ap, ◌∙◌}
use Rattle.swh_outside.specs.Files.{Files}
use Rattle.swh_exit.specs.Seen.{Span, SinkFailed}
use Rattle.swh_exit.specs.Answers.{status_of, last_line_of, IsPrinted}
use Rattle.swh_segment.specs.Making.{IsNotMade}
use Rattle.swh_program.specs.InitCommand.{InitEnds}
use Rattle.swh_exit.specs.Run.{IsTold, IsPrintedWith, IsPrintedUnlessFailed}
use Rattle.swh_exit.specs.declared.answer.Answer.{Answer}
use Rattle.swh_exit.specs.declared.answer.Answer.TheVariants.{Made, AlreadyMade, OutsideDisk, Memory}
use Rattle.swh_exit.proofs.Statuses.{Tells}
use Rattle.swh_program.proofs.Archived.{not_both}

-- what an answer says, the run that printed it says
module _ (line : List ℕ) (expected : ℕ) (answer : Answer) (s : Span) (status : ℕ) where
  printed_with : Tells line expected answer → IsPrinted answer s.told.sink s.old.sink.taken s.new.sink.taken status → IsPrintedWith line expected s status
  printed_with (inl memory) printed = inl (printed.status_is ∙ memory)
  printed_with (inr done) printed = inr (printed.status_is ∙ done.0, λ t. printed.printed t ∙ ap (λ (l : List ℕ). s.old.sink.taken ++ l) done.1)

  -- where the sink did not fail
  pub told_with : Tells line expected answer → (SinkFailed s → ⊥) → IsTold answer s status → IsPrintedWith line expected s status
  told_with says no_sink (inl printed) = printed_with says printed
  told_with says no_sink (inr cut) = absurd (no_sink cut.rose)

  -- the same where a part of the outside may have failed
  pub told_unless : (status_of answer ≡ 4) ⊎ Tells line expected answer → IsTold answer s status → IsPrintedUnlessFailed line expected s status
  told_unless (inl failed) (inl printed) = inl (printed.status_is ∙ failed)
  told_unless (inr says) (inl printed) = inr (printed_with says printed)
  told_unless says (inr cut) = inl cut.status_is

-- an archive that was not made, with no fault of its disks, was made, or memory ran out
pub init_done : (old new : Files) (answer : Answer) → InitEnds old new answer → IsNotMade (old 0).seen → (answer ≡ OutsideDisk → ⊥) → Tells (last_line_of Made) 0 answer
init_done old new Made ends not_made no_disk = inr (refl, refl)
init_done old new AlreadyMade ends not_made no_disk = absurd (not_both (old 0).seen ends.made not_made)
init_done old new OutsideDisk ends not_made no_disk = absurd (no_disk refl)
init_done old new Memory ends not_made no_disk = inl refl
init_done old new _ ends not_made no_disk = absurd ends
