use Rattle.std.proofs.Common.{◌≡◌}
use Rattle.swh_real.proofs.link.RealLink.drain.Given as goal

-- no fault was counted
abbrev pub invariant-rest : goal.invariant-rest
invariant-rest g l = l.self-inside.count ≡ l.fn.self
