use Rattle.std.proofs.Common.{◌++◌, ◌∷◌, []}
use Rattle.swh_outside.proofs.Plans.{stopped, stops, goes_on, runs_then}
use Rattle.swh_segment.specs.Calls.{write_calls}
use Rattle.swh_segment.specs.Making.{clearing, magic_end}
use Rattle.swh_segment.proofs.making.lay_magic.Goals as goal

pub returns-in_err-write_synced-clause-runs : goal.returns-in_err-write_synced-clause-runs
returns-in_err-write_synced-clause-runs g c told =
    stopped _ _ _ _ c.from_residual-in_err-write_synced.ensures.0
    (goes_on (clearing c.args.clears) (write_calls 1 magic_end ++ write_calls 0 (83 ∷ [])) _ _ _ (c.in_ok-clear.ensures.runs told).ok
    (stops (write_calls 1 magic_end) (write_calls 0 (83 ∷ [])) _ _ (c.in_err-write_synced.ensures.runs told).err))

pub returns-clause-runs : goal.returns-clause-runs
returns-clause-runs g c told =
    runs_then (clearing c.args.clears) (write_calls 1 magic_end ++ write_calls 0 (83 ∷ [])) _ _ _ _ (c.in_ok-clear.ensures.runs told).ok
    (runs_then (write_calls 1 magic_end) (write_calls 0 (83 ∷ [])) _ _ _ _ (c.in_ok-write_synced.ensures.runs told).ok (c.write_synced-2.ensures.runs told))
