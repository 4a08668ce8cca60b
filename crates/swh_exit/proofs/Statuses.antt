-- The status of an answer, and where it comes exactly of its cause.
use Rattle.std.proofs.Common.{◌≡◌, ◌⊎◌, inl, inr, ℕ, ◌<◌, ◌≤◌, List, arith}
use Rattle.swh_exit.specs.Answers.{status_for, status_of, printed_by}
use Rattle.swh_exit.specs.Run.{ComesTo, IsExactly}
use Rattle.swh_exit.specs.declared.answer.Ending.{Ending}
use Rattle.swh_exit.specs.declared.answer.Ending.TheVariants as ending
use Rattle.swh_exit.specs.declared.answer.Answer.{Answer}

-- what an answer says, where it is done or memory ran out
abbrev pub Tells : List ℕ → ℕ → Answer → Type 0
Tells line expected answer = (status_of answer ≡ 5) ⊎ ((status_of answer ≡ expected) × (printed_by answer ≡ line))

-- It is exact where it cannot be, and a part of the outside failed or memory ran out.
pub stopped : (expected status : ℕ) (Cause : Type 0) → (status ≡ expected → ⊥) → ComesTo expected status → IsExactly expected Cause status
stopped expected status Cause apart comes = record { only = λ e. absurd (apart e); there = λ _. comes }

-- an ending has no status that another refusal has
pub told_status : (end : Ending) → (status_for end < 2) ⊎ (4 ≤ status_for end)
told_status ending.Done = inl (omega arith)
told_status ending.Wanting = inl (omega arith)
told_status ending.OutsideDisk = inr (omega arith)
told_status ending.Memory = inr (omega arith)
