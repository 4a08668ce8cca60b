use Rattle.std.proofs.Common.{◌≡◌, take}
use Rattle.swh_entries.specs.Listed.{cost_of}
use Rattle.swh_folders.proofs.folders.sum_of.Given as goal

abbrev pub invariant-loop-node : goal.invariant-loop-node
invariant-loop-node l = l.sum ≡ cost_of (take l.node-index l.nodes)
