use Rattle.std.proofs.Common.{◌≡◌, ◌<◌, ℕ, length, slice_index_or, true, false}
use Rattle.swh_folders.proofs.live.root_alone.Given as goal

abbrev pub invariant-loop-k : goal.invariant-loop-k
invariant-loop-k l = record {
  as_long : length l.live.items ≡ l.k;
  root : l.root < l.k → slice_index_or l.live.items l.root false ≡ true;
  only : (j : ℕ) → slice_index_or l.live.items j false ≡ true → j ≡ l.root;
}
