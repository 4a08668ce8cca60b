use Rattle.std.proofs.Common.{◌≡◌, ◌⊎◌, ◌≤◌, ℕ, length, true}
use Rattle.swh_folders.specs.Live.{is_live, AreMarked, HasChild}
use Rattle.swh_folders.proofs.live.mark_all.Given as goal

abbrev pub invariant-loop-e : goal.invariant-loop-e
invariant-loop-e l = record {
  as_long : length l.live ≡ length l.fn.live;
  marked : AreMarked l.base l.live l.entries l.e-index;
  more : (j : ℕ) → l.base ≤ j → is_live l.base l.fn.live j ≡ true → is_live l.base l.live j ≡ true;
  only : (j : ℕ) → l.base ≤ j → is_live l.base l.live j ≡ true → (is_live l.base l.fn.live j ≡ true) ⊎ HasChild l.entries l.e-index j;
}
