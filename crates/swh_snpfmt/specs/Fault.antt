-- The first branch of a body that breaks.
use Rattle.std.specs.Prelude.{◌≡◌, ◌≢◌, ℕ, List, [], ◌++◌, length}
use Rattle.std.specs.List.{AllByRecursion}
use Rattle.swh_base.specs.Snapshot.{SnapshotBranch, IsBranch, AreBranches, BranchIsBefore, branch_text, snapshot_text}

-- what one more branch has to be
pub record MayFollowBranches (before : List SnapshotBranch) (branch : SnapshotBranch) : Type 0 where
  pub is_branch : IsBranch branch
  pub after : AllByRecursion (λ other. BranchIsBefore other branch) before

-- The bytes begin with a branch;
pub record BeginsBranch (bytes : List ℕ) : Type 0 where
  pub branch : SnapshotBranch
  pub rest : List ℕ
  pub is_branch : IsBranch branch
  pub text : bytes ≡ branch_text branch ++ rest

-- with a branch that may follow these.
pub record BeginsNextBranch (before : List SnapshotBranch) (bytes : List ℕ) : Type 0 where
  pub branch : SnapshotBranch
  pub rest : List ℕ
  pub next : MayFollowBranches before branch
  pub text : bytes ≡ branch_text branch ++ rest

-- The first branch of the body that breaks stands at `at`: what is left is no branch that may follow those before it.
pub record IsSnpFault (body : List ℕ) (at : ℕ) : Type 0 where
  pub before : List SnapshotBranch
  pub rest : List ℕ
  pub good : AreBranches before
  pub text : body ≡ snapshot_text before ++ rest
  pub here : at ≡ length (snapshot_text before)
  pub some : rest ≢ []
  pub breaks : BeginsNextBranch before rest → ⊥
