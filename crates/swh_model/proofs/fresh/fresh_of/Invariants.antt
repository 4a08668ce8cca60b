use Rattle.std.proofs.Common.{◌≡◌, take}
use Rattle.swh_model.specs.Judge.{not_held}
use Rattle.swh_model.proofs.fresh.fresh_of.Given as goal

abbrev pub invariant-loop-entry : goal.invariant-loop-entry
invariant-loop-entry l = l.fresh.items ≡ not_held l.state.bodies (take l.entry-index l.entries)
