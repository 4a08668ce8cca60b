use Rattle.std.proofs.Common.{◌+◌, ◌++◌, ◌∷◌, [], ℕ, length, sym, ◌∙◌, ap, subst}
use Rattle.swh_outside.specs.Disk.{File}
use Rattle.swh_outside.specs.Files.{on, files_of, files_done}
use Rattle.swh_outside.proofs.Plans.{on_err}
use Rattle.swh_outside.proofs.Numbered.{files_stopped, files_stops, files_goes_on, files_done-append, ledger_done, files_left_by, files_runs_then, store_breaks, store_done, ledger_runs, ledger_breaks}
use Rattle.swh_segment.specs.Calls.{run_calls, append_calls}
use Rattle.swh_segment.specs.Runs.{run_of}
use Rattle.swh_segment.specs.Settled.{AreSettled}
use Rattle.swh_segment.proofs.EventsCrash.{written_moments, written_settled}
use Rattle.swh_segment.proofs.both.append_to_both.Goals as goal

pub returns-in_err-append_some-clause-runs : goal.returns-in_err-append_some-clause-runs
returns-in_err-append_some-clause-runs g c told =
    files_stopped _ _ _ _ c.from_residual.ensures.0
    (files_stops (on 1 (run_calls c.args.store.now.end (run_of c.args.run))) (on 0 (append_calls c.args.ledger.now.end c.args.entry.now)) _ _ (store_breaks (run_calls c.args.store.now.end (run_of c.args.run)) _ _ _ (c.in_err-append_some.ensures.runs told).err))

pub returns-in_err-append_some-clause-left : goal.returns-in_err-append_some-clause-left
returns-in_err-append_some-clause-left g c told h e settled written =
    on_err _ _ c.from_residual.ensures.0
    (files_left_by _ _ _ _ (written_moments _ h e _ _ _ _ settled written)
    (files_stops (on 1 (run_calls c.args.store.now.end (run_of c.args.run))) (on 0 (append_calls c.args.ledger.now.end c.args.entry.now)) _ _ (store_breaks (run_calls c.args.store.now.end (run_of c.args.run)) _ _ _ (c.in_err-append_some.ensures.runs told).err)))

pub returns-in_err-append_bytes-clause-runs : goal.returns-in_err-append_bytes-clause-runs
returns-in_err-append_bytes-clause-runs g c told =
    let plan = run_calls c.args.store.now.end (run_of c.args.run) in
    let calls = append_calls c.args.ledger.now.end c.args.entry.now in
    let ledger = g.D.Disk.file c.args.ledger.now.disk in
    let store = g.D.Disk.file c.args.store.now.disk in
    let ran = ap (λ (f : File). files_of ledger f) (c.in_ok-append_some.ensures.runs told).ok ∙ sym (store_done plan ledger store) in
    files_stopped _ _ _ _ c.from_residual-in_err-append_bytes.ensures.0 (files_goes_on (on 1 plan) (on 0 calls) _ _ _ ran (ledger_breaks calls _ _ _ (c.in_err-append_bytes.ensures.runs told).err))

pub returns-in_err-append_bytes-clause-left : goal.returns-in_err-append_bytes-clause-left
returns-in_err-append_bytes-clause-left g c told h e settled written =
    let plan = run_calls c.args.store.now.end (run_of c.args.run) in
    let calls = append_calls c.args.ledger.now.end c.args.entry.now in
    let ledger = g.D.Disk.file c.args.ledger.now.disk in
    let store = g.D.Disk.file c.args.store.now.disk in
    let ran = ap (λ (f : File). files_of ledger f) (c.in_ok-append_some.ensures.runs told).ok ∙ sym (store_done plan ledger store) in
    on_err _ _ c.from_residual-in_err-append_bytes.ensures.0
    (files_left_by _ _ _ _ (written_moments _ h e _ _ _ _ settled written) (files_goes_on (on 1 plan) (on 0 calls) _ _ _ ran (ledger_breaks calls _ _ _ (c.in_err-append_bytes.ensures.runs told).err)))

pub returns-clause-runs : goal.returns-clause-runs
returns-clause-runs g c told =
    let plan = run_calls c.args.store.now.end (run_of c.args.run) in
    let calls = append_calls c.args.ledger.now.end c.args.entry.now in
    let ledger = g.D.Disk.file c.args.ledger.now.disk in
    let store = g.D.Disk.file c.args.store.now.disk in
    let ran = ap (λ (f : File). files_of ledger f) (c.in_ok-append_some.ensures.runs told).ok ∙ sym (store_done plan ledger store) in
    files_runs_then (on 1 plan) (on 0 calls) _ _ _ _ ran (ledger_runs calls _ _ _ _ (record { ok = (c.in_ok-append_bytes.ensures.runs told).ok; err = tt }))

pub returns-clause-appended : goal.returns-clause-appended
returns-clause-appended g c told h e settled written =
    let plan = run_calls c.args.store.now.end (run_of c.args.run) in
    let calls = append_calls c.args.ledger.now.end c.args.entry.now in
    let ledger = g.D.Disk.file c.args.ledger.now.disk in
    let store = g.D.Disk.file c.args.store.now.disk in
    let new = files_of (g.D.Disk.file c.append_bytes.new.self.disk) (g.D.Disk.file c.append_some.new.store.disk) in
    let done = ap (λ (f : File). files_of f (g.D.Disk.file c.append_some.new.store.disk)) (c.in_ok-append_bytes.ensures.runs told).ok ∙ sym (ledger_done calls ledger (g.D.Disk.file c.append_some.new.store.disk))
    ∙ ap (λ (f : File). files_done (on 0 calls) (files_of ledger f)) (c.in_ok-append_some.ensures.runs told).ok ∙ ap (files_done (on 0 calls)) (sym (store_done plan ledger store)) ∙ sym (files_done-append (on 1 plan) (on 0 calls) (files_of ledger store)) in
    subst (λ (n : ℕ). AreSettled new (h ++ e ∷ []) c.append_some.new.store.end n) (sym c.in_ok-append_bytes.ensures.end)
    (subst (λ (n : ℕ). AreSettled new (h ++ e ∷ []) n (c.args.ledger.now.end + length c.args.entry.now)) (sym c.in_ok-append_some.ensures.end)
    (written_settled (files_of ledger store) new h e c.args.store.now.end c.args.ledger.now.end (run_of c.args.run) c.args.entry.now settled written done))
