use Rattle.swh_core.proofs.crashing.catch_undoubted.Goals as goal

pub catch_flight-requires-clause-wish : goal.catch_flight-requires-clause-wish
catch_flight-requires-clause-wish c = c.requires.flight (c.in-Some.actor, c.in-Some.wish, c.in-Some.made) c.in-Some.is
