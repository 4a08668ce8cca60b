-- What a call that takes from a source leaves of it.
use Rattle.std.specs.Prelude.{◌≡◌, ◌≤◌, ℕ, List, Result, IsErrOf}
use Rattle.swh_outside.specs.Faults.{Rose}

-- A failure was heard only where the call tells it: with any other answer the count of faults is as it was.
abbrev pub IsQuietBut : {T E : Type 0} → (old new : ℕ) → (failed : E) → (result : Result T E) → Type 0
IsQuietBut old new failed result = (IsErrOf result failed → ⊥) → new ≡ old

-- Its path stays. Its count of faults rose where it is told that the source failed, never falls, and is as it was with any
-- other answer.
pub record IsReadOn {S T E : Type 0} (path : S → List ℕ) (faults : S → ℕ) (old new : S) (failed : E) (result : Result T E) : Type 0 where
  pub same_path : path new ≡ path old
  pub later : faults old ≤ faults new
  pub quiet : IsQuietBut (faults old) (faults new) failed result
  pub cause : IsErrOf result failed → Rose (faults old) (faults new)
