use Rattle.std.proofs.Common.{◌≡◌, drop}
use Rattle.swh_model.specs.Judge.{first_long}
use Rattle.swh_model.proofs.adding.long_body.Given as goal

abbrev pub invariant-loop-entry : goal.invariant-loop-entry
invariant-loop-entry l = first_long l.entries ≡ first_long (drop l.entry-index l.entries)
