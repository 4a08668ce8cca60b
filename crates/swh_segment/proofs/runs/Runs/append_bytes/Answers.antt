use Rattle.std.proofs.Common.{◌≡◌, ◌+◌, ◌++◌, ℕ, Some, length, sym, ap, subst, arith}
use Rattle.swh_outside.specs.Disk.{Runs, Breaks, all_done}
use Rattle.swh_outside.proofs.Plans.{stopped, left_by, on_err}
use Rattle.swh_segment.specs.Calls.{run_calls}
use Rattle.swh_segment.specs.OnDisk.{OnDisk}
use Rattle.swh_segment.specs.Settled.{BeginsWith, AreRunsSettled}
use Rattle.swh_segment.proofs.Owners.{broken_longer, run_moments, run_settled}
use Rattle.swh_segment.proofs.runs.Runs.append_bytes.Goals as goal

pub invariant_of-self : goal.invariant_of-self
invariant_of-self g c told = omega (arith, c.self.invariant told, broken_longer (run_calls c.self.inside.end (Some c.args.run.now)) _ _ (c.in_err-append_run.ensures.runs told).err)

pub returns-in_err-append_run-clause-runs : goal.returns-in_err-append_run-clause-runs
returns-in_err-append_run-clause-runs g c told =
    subst (λ (o : OnDisk g.row.D.Denot). Runs (run_calls o.end (Some c.args.run.now)) (g.D.Disk.file o.disk) (g.D.Disk.file c.append_run.new.store) c.from_residual.result) c.self.view_is
    (stopped _ _ _ _ c.from_residual.ensures.0 (c.in_err-append_run.ensures.runs told).err)

pub returns-in_err-append_run-clause-left : goal.returns-in_err-append_run-clause-left
returns-in_err-append_run-clause-left g c told before settled =
    let old = c.args.self.now in
    let broken = subst (λ (o : OnDisk g.row.D.Denot). Breaks (run_calls o.end (Some c.args.run.now)) (g.D.Disk.file o.disk) (g.D.Disk.file c.append_run.new.store)) c.self.view_is (c.in_err-append_run.ensures.runs told).err in
    on_err _ _ c.from_residual.ensures.0 (left_by (run_calls old.end (Some c.args.run.now)) (g.D.Disk.file old.disk) _ (BeginsWith before) (run_moments (g.D.Disk.file old.disk) before old.end c.args.run.now settled) broken)

pub returns-clause-appended : goal.returns-clause-appended
returns-clause-appended g c told before settled =
    let old = c.args.self.now in
    let there = subst (λ (o : OnDisk g.row.D.Denot). g.D.Disk.file c.append_run.new.store ≡ all_done (run_calls o.end (Some c.args.run.now)) (g.D.Disk.file o.disk)) c.self.view_is (c.in_ok-append_run.ensures.runs told).ok in
    subst (λ (n : ℕ). AreRunsSettled (g.D.Disk.file c.append_run.new.store) (before ++ c.args.run.now) (n + length c.args.run.now)) (sym (ap (λ (o : OnDisk g.row.D.Denot). o.end) c.self.view_is))
    (run_settled (g.D.Disk.file old.disk) _ before old.end c.args.run.now settled there)
