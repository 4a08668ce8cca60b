use Rattle.std.proofs.Common.{◌≡◌, ◌≤◌, length, take}
use Rattle.swh_model.specs.Archive.{Bodies, body_of}
use Rattle.swh_model.specs.Step.{added}
use Rattle.swh_model.proofs.state.newest.Given as goal

abbrev pub decreases-loop-left : goal.decreases-loop-left
decreases-loop-left l = l.left

abbrev pub invariant-loop-left : goal.invariant-loop-left
invariant-loop-left l = record {
  within : l.left ≤ length l.entries;
  passed : (bodies : Bodies) → body_of (added bodies l.entries) l.name ≡ body_of (added bodies (take l.left l.entries)) l.name;
}
