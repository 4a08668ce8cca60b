use Rattle.std.proofs.Common.{◌≡◌, ◌<◌, ℕ, false, get_or}
use Rattle.swh_memory_input.specs.Outside.{is_for}
use Rattle.swh_memory_input.specs.declared.input.Input.{Input}
use Rattle.swh_memory_input.proofs.origins.find_input.Given as goal

abbrev pub invariant-loop-i : goal.invariant-loop-i
invariant-loop-i l = (z : Input) (k : ℕ) → k < l.i → is_for l.path (get_or l.inputs k z) ≡ false
