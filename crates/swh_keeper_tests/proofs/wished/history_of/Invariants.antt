use Rattle.swh_model.specs.Step.{IsHistory}
use Rattle.swh_keeper_tests.proofs.wished.history_of.Given as goal

abbrev pub invariant-loop-row : goal.invariant-loop-row
invariant-loop-row g l = IsHistory g.N.Namer.id_of l.history.items
