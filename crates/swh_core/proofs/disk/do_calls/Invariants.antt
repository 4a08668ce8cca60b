use Rattle.std.proofs.Common.{◌≡◌, map, drop}
use Rattle.swh_core.specs.World.{called}
use Rattle.swh_core.specs.Answers.{file_call}
use Rattle.swh_core.proofs.disk.do_calls.Given as goal

-- what is left to do leads to what all lead to
abbrev pub invariant-loop-call : goal.invariant-loop-call
invariant-loop-call l = called (map file_call (drop l.call-index l.calls)) l.disks ≡ called (map file_call l.calls) l.initial.disks
