use Rattle.std.proofs.Common.{◌≡◌, List, ◌++◌, map}
use Rattle.swh_base.specs.Snapshot.{SnapshotBranch}
use Rattle.swh_fastmeaning.specs.Snapshots.{tip_branch}
use Rattle.swh_fastmeaning.specs.Tips.{tip_of}
use Rattle.swh_fastmeaning.specs.Ending.{AreSides}
use Rattle.swh_fastmeaning.proofs.aims.sides_of.Given as goal

abbrev pub invariant-loop-name : goal.invariant-loop-name
invariant-loop-name l =
    (done : List SnapshotBranch) × (map tip_branch (map tip_of l.tips.entries) ≡ done ++ map tip_branch (map tip_of l.name-iterator)) × AreSides done l.sides
