use Rattle.std.proofs.Common.{◌≡◌, ◌++◌, take, codes}
use Rattle.std.specs.List.{flat_map}
use Rattle.swh_fastcook.specs.Stream.{parent_line}
use Rattle.swh_fastcook.proofs.commits.push_merges.Given as goal

abbrev pub invariant-loop-id : goal.invariant-loop-id
invariant-loop-id l = l.held.items ≡ l.initial.held.items ++ flat_map (parent_line l.marks (codes "merge ")) (take l.id-index l.ids)
