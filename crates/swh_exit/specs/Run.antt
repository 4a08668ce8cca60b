-- How a run ends.
use Rattle.std.specs.Prelude.{◌≡◌, ◌⊎◌, ◌++◌, ℕ, List}
use Rattle.swh_outside.specs.Faults.{Rose}
use Rattle.swh_exit.specs.Seen.{Span}
use Rattle.swh_exit.specs.Answers.{IsToldOf}
use Rattle.swh_exit.specs.declared.answer.Answer.{Answer}

-- The statuses that a run may end with.
abbrev pub IsStatus : ℕ → Type 0
IsStatus status = (status ≡ 0) ⊎ (status ≡ 1) ⊎ (status ≡ 2) ⊎ (status ≡ 3) ⊎ (status ≡ 4) ⊎ (status ≡ 5)

-- The status is the expected one, or it is 4 or 5: a part of the outside failed, or memory ran out.
abbrev pub ComesTo : ℕ → ℕ → Type 0
ComesTo expected status = (status ≡ expected) ⊎ (status ≡ 4) ⊎ (status ≡ 5)

-- The status is the expected one only where the cause holds; and where it holds the status is that one, or 4 or 5: a
-- part of the outside failed, or memory ran out.
pub record IsExactly (expected : ℕ) (Cause : Type 0) (status : ℕ) : Type 0 where
  pub only : status ≡ expected → Cause
  pub there : Cause → ComesTo expected status

-- The answer was told: what it prints is on the sink and its status is the run's, or the sink failed.
abbrev pub IsTold : Answer → Span → ℕ → Type 0
IsTold answer s status = IsToldOf answer s.told.sink s.old.sink.taken s.new.sink.taken s.old.sink.faults s.new.sink.faults status

-- The run came to an answer for which `IsOne` holds, and the answer was told.
pub record Ends (IsOne : Answer → Type 0) (s : Span) (status : ℕ) : Type 0 where
  pub answer : Answer
  pub is_one : IsOne answer
  pub told : IsTold answer s status

-- The count of faults did not rise in this call.
abbrev pub IsQuiet : ℕ → ℕ → Type 0
IsQuiet before now = Rose before now → ⊥

-- Memory apart, this text was printed with this status.
abbrev pub IsPrintedWith : List ℕ → ℕ → Span → ℕ → Type 0
IsPrintedWith text expected s status =
    (status ≡ 5) ⊎ ((status ≡ expected) × (s.told.sink → s.new.sink.taken ≡ s.old.sink.taken ++ text))

-- Memory apart, and a part of the outside, this text was printed with this status.
abbrev pub IsPrintedUnlessFailed : List ℕ → ℕ → Span → ℕ → Type 0
IsPrintedUnlessFailed text expected s status = (status ≡ 4) ⊎ IsPrintedWith text expected s status
