use Rattle.std.proofs.Common.{length}
use Rattle.swh_pathwalk.proofs.Levels.{HavePopped}
use Rattle.swh_pathwalk.proofs.stepping.pop_with_entries.Given as goal

abbrev pub invariant-loop-level : goal.invariant-loop-level
invariant-loop-level l = HavePopped l.initial.levels.items l.levels.items

abbrev pub decreases-loop-level : goal.decreases-loop-level
decreases-loop-level l = length l.levels.items
