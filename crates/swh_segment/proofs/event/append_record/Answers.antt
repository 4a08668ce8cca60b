use Rattle.std.proofs.Common.{◌+◌, ◌∷◌, []}
use Rattle.swh_outside.proofs.Plans.{stopped, stops, runs_then}
use Rattle.swh_segment.specs.Calls.{write_calls}
use Rattle.swh_segment.proofs.event.append_record.Goals as goal

pub returns-in_err-write_synced-clause-runs : goal.returns-in_err-write_synced-clause-runs
returns-in_err-write_synced-clause-runs g c told =
    stopped _ _ _ _ c.from_residual.ensures.0
    (stops (write_calls (c.args.end + 1) c.args.entry.now) (write_calls c.args.end (1 ∷ [])) _ _ (c.in_err-write_synced.ensures.runs told).err)

pub returns-clause-runs : goal.returns-clause-runs
returns-clause-runs g c told =
    runs_then (write_calls (c.args.end + 1) c.args.entry.now) (write_calls c.args.end (1 ∷ [])) _ _ _ _ (c.in_ok-write_synced.ensures.runs told).ok (c.write_synced-2.ensures.runs told)
