use Rattle.std.proofs.Common.{◌≡◌, List, ◌++◌}
use Rattle.std.specs.List.{flat_map}
use Rattle.swh_replies.specs.Writes.{Adds}
use Rattle.swh_replies.proofs.Shown.{Entry, target_tokens}
use Rattle.swh_replies.proofs.branches.put_members.Given as goal

abbrev pub invariant-loop-name : goal.invariant-loop-name
invariant-loop-name l = (done : List Entry) × (l.targets.entries ≡ done ++ l.name-iterator) × Adds l.initial.writer (flat_map target_tokens done) l.writer
