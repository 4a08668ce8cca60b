-- Which targets a word can stand for.
use Rattle.std.proofs.Common.{◌≡◌, ℕ, List}
use Rattle.swh_base.specs.Snapshot.{BranchTarget, IsTarget, target_word, target_bytes}

-- Of what a word and bytes stand for there is no target.
abbrev pub NoTarget : List ℕ → List ℕ → Type 0
NoTarget word bytes = (target : BranchTarget) → IsTarget target → word ≡ target_word target → bytes ≡ target_bytes target → ⊥
