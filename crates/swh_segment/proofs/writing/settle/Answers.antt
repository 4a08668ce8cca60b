use Rattle.std.proofs.Common.{◌∷◌, [], sym, ◌∙◌, ap}
use Rattle.swh_outside.specs.Disk.{File, Sync}
use Rattle.swh_outside.specs.Files.{on, files_of}
use Rattle.swh_outside.proofs.Numbered.{files_stopped, files_stops, store_breaks, store_done, files_runs_then, ledger_runs}
use Rattle.swh_segment.proofs.Barriers.{sync_seen, both_images, synced_rests, both_rest}
use Rattle.swh_segment.proofs.Outcomes.{ok_then}
use Rattle.swh_segment.proofs.writing.settle.Goals as goal

pub returns-in_err-sync-clause-runs : goal.returns-in_err-sync-clause-runs
returns-in_err-sync-clause-runs g c told =
    files_stopped _ _ _ _ c.from_residual.ensures.0
    (files_stops (on 1 (Sync ∷ [])) (on 0 (Sync ∷ [])) _ _ (store_breaks (Sync ∷ []) _ _ _ (c.in_err-sync.ensures.runs told).err))

pub returns-clause-runs : goal.returns-clause-runs
returns-clause-runs g c told =
    let ledger = g.D.Disk.file c.args.ledger.now in
    let store = g.D.Disk.file c.args.store.now in
    let synced = ap (λ (f : File). files_of ledger f) (c.in_ok-sync.ensures.runs told).ok ∙ sym (store_done (Sync ∷ []) ledger store) in
    files_runs_then (on 1 (Sync ∷ [])) (on 0 (Sync ∷ [])) _ _ _ _ synced (ledger_runs (Sync ∷ []) _ _ _ _ (c.sync-2.ensures.runs told))

pub returns-in_err-sync-clause-seen : goal.returns-in_err-sync-clause-seen
returns-in_err-sync-clause-seen g c told =
    let ledger = g.D.Disk.file c.args.ledger.now in
    both_images ledger (g.D.Disk.file c.args.store.now) ledger (g.D.Disk.file c.sync.new.self)
    ((g.met.D.Disk g.world.𝓛 g.world.𝓜 g.world.𝓡 ((λ s x. x), (λ x. x), (λ x. x), λ x. x)).sees_image c.args.ledger.now told)
    (sync_seen _ _ _ ((g.met.D.Disk g.world.𝓛 g.world.𝓜 g.world.𝓡 ((λ s x. x), (λ x. x), (λ x. x), λ x. x)).sees_image c.args.store.now told) (c.in_err-sync.ensures.runs told))

pub returns-clause-seen : goal.returns-clause-seen
returns-clause-seen g c told =
    both_images (g.D.Disk.file c.args.ledger.now) (g.D.Disk.file c.args.store.now) (g.D.Disk.file c.sync-2.new.self) (g.D.Disk.file c.sync.new.self)
    (sync_seen _ _ _ ((g.met.D.Disk g.world.𝓛 g.world.𝓜 g.world.𝓡 ((λ s x. x), (λ x. x), (λ x. x), λ x. x)).sees_image c.args.ledger.now told) (c.sync-2.ensures.runs told))
    (sync_seen _ _ _ ((g.met.D.Disk g.world.𝓛 g.world.𝓜 g.world.𝓡 ((λ s x. x), (λ x. x), (λ x. x), λ x. x)).sees_image c.args.store.now told) (c.in_ok-sync.ensures.runs told))

pub returns-clause-rests : goal.returns-clause-rests
returns-clause-rests g c told =
    let store = synced_rests (g.D.Disk.file c.args.store.now) (g.D.Disk.file c.sync.new.self) (c.in_ok-sync.ensures.runs told).ok in
    ok_then _ _ _ (c.sync-2.ensures.runs told).ok (λ done. both_rest (g.D.Disk.file c.sync-2.new.self) (g.D.Disk.file c.sync.new.self) (synced_rests (g.D.Disk.file c.args.ledger.now) (g.D.Disk.file c.sync-2.new.self) done) store)
