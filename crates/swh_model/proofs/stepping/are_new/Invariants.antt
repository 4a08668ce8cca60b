use Rattle.std.proofs.Common.{take}
use Rattle.swh_model.specs.Step.{AreNew}
use Rattle.swh_model.proofs.stepping.are_new.Given as goal

abbrev pub invariant-loop-place : goal.invariant-loop-place
invariant-loop-place l = AreNew l.state.bodies (take l.place l.entries)
