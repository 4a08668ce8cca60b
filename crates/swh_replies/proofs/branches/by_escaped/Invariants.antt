use Rattle.std.proofs.Common.{◌≡◌, take}
use Rattle.swh_snpfmt.specs.Branches.{branches_in_body}
use Rattle.swh_replies.specs.Json.{branches_data}
use Rattle.swh_replies.specs.Writes.{targets_data}
use Rattle.swh_replies.proofs.branches.by_escaped.Given as goal

abbrev pub invariant-loop-branch : goal.invariant-loop-branch
invariant-loop-branch l = targets_data l.targets.entries ≡ branches_data (branches_in_body (take l.branch-index l.branches))
