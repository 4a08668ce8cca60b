-- The place of a branch that is looked for.
use Rattle.std.specs.Prelude.{◌≡◌, ◌<◌, ℕ, List, get_or, length}
use Rattle.swh_snpfmt.specs.declared.branch.SpelledBranch.{SpelledBranch}

-- At this place stands a branch of this name.
pub record IsPlaceOf (branches : List SpelledBranch) (name : List ℕ) (place : ℕ) : Type 0 where
  pub within : place < length branches
  pub branch : SpelledBranch
  pub there : branch ≡ get_or branches place branch
  pub named : branch.name.now ≡ name
