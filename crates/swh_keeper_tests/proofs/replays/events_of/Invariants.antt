use Rattle.std.specs.List.{AllByRecursion}
use Rattle.swh_model.specs.Happens.{IsGoodEvent}
use Rattle.swh_keeper_tests.proofs.replays.events_of.Given as goal

abbrev pub invariant-loop-happening : goal.invariant-loop-happening
invariant-loop-happening l = AllByRecursion IsGoodEvent l.events.items
