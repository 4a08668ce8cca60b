use Rattle.std.proofs.Common.{◌≡◌, Some, take}
use Rattle.std.specs.List.{AllByRecursion}
use Rattle.swh_model.specs.Archive.{body_of}
use Rattle.swh_model.specs.Step.{added}
use Rattle.swh_model.proofs.fresh.find_collision.Given as goal

abbrev pub invariant-loop-entry : goal.invariant-loop-entry
invariant-loop-entry l = AllByRecursion (λ e. body_of (added l.state.bodies l.fresh) e.name ≡ Some e.body) (take l.entry-index l.entries)
