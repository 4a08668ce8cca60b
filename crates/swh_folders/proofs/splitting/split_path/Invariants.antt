use Rattle.std.proofs.Common.{◌≡◌, ◌≤◌, ◌<◌, ℕ, length, get_or}
use Rattle.swh_folders.proofs.splitting.split_path.Given as goal

abbrev pub invariant-back : goal.invariant-back
invariant-back l = record {
  within : l.end ≤ length l.path;
  none : (k : ℕ) → l.end ≤ k → k < length l.path → get_or l.path k 47 ≡ 47 → ⊥;
}

abbrev pub decreases-back : goal.decreases-back
decreases-back l = l.end
