use Rattle.std.proofs.Common.{◌≡◌, length}
use Rattle.swh_real.proofs.link.RealLink.send.Given as goal

-- no fault was counted
abbrev pub invariant-bytes : goal.invariant-bytes
invariant-bytes g l = l.self ≡ l.fn.self

-- the bytes that were not sent yet
abbrev pub decreases-bytes : goal.decreases-bytes
decreases-bytes g l = length l.rest
