use Rattle.std.proofs.Common.{[], ◌∷◌}
use Rattle.swh_outside.specs.Disk.{Write, Sync}
use Rattle.swh_outside.proofs.Plans.{stops, goes_on, stopped}
use Rattle.swh_segment.proofs.writing.write_synced.Goals as goal

pub returns-in_err-write_at-clause-runs : goal.returns-in_err-write_at-clause-runs
returns-in_err-write_at-clause-runs g c told =
    let ran = c.in_err-write_at.ensures.runs told in
    stopped _ _ _ _ c.from_residual.ensures.0 (stops (Write c.args.at c.args.bytes.now ∷ []) (Sync ∷ []) _ _ ran.err)

pub returns-in_err-sync-clause-runs : goal.returns-in_err-sync-clause-runs
returns-in_err-sync-clause-runs g c told =
    let wrote = c.in_ok-write_at.ensures.runs told in
    let ran = c.in_err-sync.ensures.runs told in
    stopped _ _ _ _ c.from_residual-in_err-sync.ensures.0 (goes_on (Write c.args.at c.args.bytes.now ∷ []) (Sync ∷ []) _ _ _ wrote.ok ran.err)
