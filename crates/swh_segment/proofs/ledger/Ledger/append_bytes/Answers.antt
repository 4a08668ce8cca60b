use Rattle.std.proofs.Common.{◌≡◌, ◌+◌, ◌++◌, ◌∷◌, [], ℕ, length, sym, ap, subst, arith}
use Rattle.swh_outside.specs.Disk.{Runs, Breaks, all_done}
use Rattle.swh_outside.proofs.Plans.{stopped, left_by, on_err}
use Rattle.swh_format.specs.Record.{with_or_without}
use Rattle.swh_segment.specs.Calls.{append_calls}
use Rattle.swh_segment.specs.OnDisk.{OnDisk}
use Rattle.swh_segment.specs.Settled.{IsSettled}
use Rattle.swh_segment.proofs.Appends.{each_moment, appended}
use Rattle.swh_segment.proofs.Owners.{broken_longer}
use Rattle.swh_segment.proofs.ledger.Ledger.append_bytes.Goals as goal

pub invariant_of-self : goal.invariant_of-self
invariant_of-self g c told = omega (arith, c.self.invariant told, broken_longer (append_calls c.self.inside.end c.args.entry.now) _ _ (c.in_err-append_record.ensures.runs told).err)

pub returns-in_err-append_record-clause-runs : goal.returns-in_err-append_record-clause-runs
returns-in_err-append_record-clause-runs g c told =
    subst (λ (o : OnDisk g.row.D.Denot). Runs (append_calls o.end c.args.entry.now) (g.D.Disk.file o.disk) (g.D.Disk.file c.append_record.new.ledger) c.from_residual.result) c.self.view_is
    (stopped _ _ _ _ c.from_residual.ensures.0 (c.in_err-append_record.ensures.runs told).err)

pub returns-in_err-append_record-clause-left : goal.returns-in_err-append_record-clause-left
returns-in_err-append_record-clause-left g c told rs r settled ready =
    let old = c.args.self.now in
    let broken = subst (λ (o : OnDisk g.row.D.Denot). Breaks (append_calls o.end c.args.entry.now) (g.D.Disk.file o.disk) (g.D.Disk.file c.append_record.new.ledger)) c.self.view_is (c.in_err-append_record.ensures.runs told).err in
    on_err _ _ c.from_residual.ensures.0 (left_by (append_calls old.end c.args.entry.now) (g.D.Disk.file old.disk) _ (with_or_without rs r) (each_moment (g.D.Disk.file old.disk) rs r old.end settled c.args.entry.now ready) broken)

pub returns-clause-appended : goal.returns-clause-appended
returns-clause-appended g c told rs r settled ready =
    let old = c.args.self.now in
    let there = subst (λ (o : OnDisk g.row.D.Denot). g.D.Disk.file c.append_record.new.ledger ≡ all_done (append_calls o.end c.args.entry.now) (g.D.Disk.file o.disk)) c.self.view_is (c.in_ok-append_record.ensures.runs told).ok in
    subst (λ (n : ℕ). IsSettled (g.D.Disk.file c.append_record.new.ledger) (rs ++ r ∷ []) (n + length c.args.entry.now)) (sym (ap (λ (o : OnDisk g.row.D.Denot). o.end) c.self.view_is))
    (appended (g.D.Disk.file old.disk) rs r old.end settled c.args.entry.now _ ready there)
