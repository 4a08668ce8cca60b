use Rattle.std.proofs.Common.{◌≡◌, ℕ, ◌+◌, ◌++◌, ◌∷◌, [], length, Option, List, sym, ap, ◌∙◌, subst, arith}
use Rattle.swh_outside.specs.Files.{FileCall, FilesRuns, files_of}
use Rattle.swh_segment.specs.Runs as runs
use Rattle.swh_format.specs.Events as format
use Rattle.swh_format.specs.EventRecord.{run_written}
use Rattle.swh_segment.specs.Calls.{event_calls}
use Rattle.swh_format.specs.Stands.{written, all_written}
use Rattle.swh_model.proofs.Results.{on_ok, on_err}
use Rattle.swh_keeper.proofs.KeptLemmas.{ready, settled-push, images_left, on_all_ok, settled_at}
use Rattle.swh_keeper.proofs.writing.write_event.Goals as goal

pub append_to_both-requires-clause-store_limit : goal.append_to_both-requires-clause-store_limit
append_to_both-requires-clause-store_limit g c κs within =
    let run_long : length (format.run_bytes (runs.run_of c.run_for-run.result)) ≡ length c.args.run.now =
    ap (λ (o : Option (List ℕ)). length (format.run_bytes o)) c.run_for-run.ensures ∙ ap length (sym c.requires.to_add.run_is) in
    let room = c.requires.room.store_fits in
    let end = c.requires.ends.store in
    omega (arith, run_long, room, end)

pub append_to_both-requires-clause-limit : goal.append_to_both-requires-clause-limit
append_to_both-requires-clause-limit g c κs within =
    let room = c.requires.room.ledger_fits in
    let end = c.requires.ends.ledger in
    omega (arith, room, end)

pub returns-clause-ok : goal.returns-clause-ok
returns-clause-ok g c told =
    let r = c.args.replayed.now in
    let h = c.args.history.now.items in
    let e = c.args.event.now in
    let s = c.requires.settled told in
    let old = files_of (g.D.Disk.file c.args.ledger.now.disk) (g.D.Disk.file c.args.store.now.disk) in
    let new = files_of (g.D.Disk.file c.append_to_both.new.ledger.disk) (g.D.Disk.file c.append_to_both.new.store.disk) in
    let run_long : length (format.run_bytes (runs.run_of c.run_for-run.result)) ≡ length c.args.run.now =
    ap (λ (o : Option (List ℕ)). length (format.run_bytes o)) c.run_for-run.ensures ∙ ap length (sym c.requires.to_add.run_is) in
    let begun = settled_at old (all_written 0 h) r.store_end r.ledger_end c.args.store.now.end c.args.ledger.now.end (sym c.requires.ends.store) (sym c.requires.ends.ledger) s.settled in
    on_all_ok c.append_to_both.result
    (c.append_to_both.ensures.appended told (all_written 0 h) (written r.store_end e) begun (record { run_is = c.run_for-run.ensures; entry = ready r h e c.args.run.now c.args.bytes.now c.requires.to_add }))
    c.append_to_both.ensures.store_end c.append_to_both.ensures.end
    (λ done store ledger. settled-push r h e c.args.run.now c.args.bytes.now (g.D.Disk.file c.append_to_both.new.ledger.disk) (g.D.Disk.file c.append_to_both.new.store.disk) (r.store_end + length c.args.run.now) (r.ledger_end + length c.args.bytes.now)
    c.requires.to_add s.codable
    (settled_at new (all_written 0 h ++ written r.store_end e ∷ []) c.append_to_both.new.store.end c.append_to_both.new.ledger.end (r.store_end + length c.args.run.now) (r.ledger_end + length c.args.bytes.now)
    (let a = c.requires.ends.store in omega (arith, store, run_long, a)) (let a = c.requires.ends.ledger in omega (arith, ledger, a)) done))

pub returns-clause-store_end : goal.returns-clause-store_end
returns-clause-store_end g c =
    let run_long : length (format.run_bytes (runs.run_of c.run_for-run.result)) ≡ length c.args.run.now =
    ap (λ (o : Option (List ℕ)). length (format.run_bytes o)) c.run_for-run.ensures ∙ ap length (sym c.requires.to_add.run_is) in
    on_ok c.append_to_both.result c.append_to_both.ensures.store_end (λ is. let a = c.requires.ends.store in omega (arith, is, run_long, a))

pub returns-clause-ledger_end : goal.returns-clause-ledger_end
returns-clause-ledger_end g c =
    on_ok c.append_to_both.result c.append_to_both.ensures.end (λ is. let a = c.requires.ends.ledger in omega (arith, is, a))

pub returns-clause-left : goal.returns-clause-left
returns-clause-left g c told =
    let r = c.args.replayed.now in
    let h = c.args.history.now.items in
    let e = c.args.event.now in
    let s = c.requires.settled told in
    let old = files_of (g.D.Disk.file c.args.ledger.now.disk) (g.D.Disk.file c.args.store.now.disk) in
    let begun = settled_at old (all_written 0 h) r.store_end r.ledger_end c.args.store.now.end c.args.ledger.now.end (sym c.requires.ends.store) (sym c.requires.ends.ledger) s.settled in
    on_err c.append_to_both.result
    (c.append_to_both.ensures.left told (all_written 0 h) (written r.store_end e) begun (record { run_is = c.run_for-run.ensures; entry = ready r h e c.args.run.now c.args.bytes.now c.requires.to_add }))
    (λ each. images_left r h e c.args.run.now c.args.bytes.now (files_of (g.D.Disk.file c.append_to_both.new.ledger.disk) (g.D.Disk.file c.append_to_both.new.store.disk)) c.requires.to_add s.codable each)

pub returns-clause-calls : goal.returns-clause-calls
returns-clause-calls g c told =
    let r = c.args.replayed.now in
    let plan : event_calls c.args.store.now.end (runs.run_of c.run_for-run.result) c.args.ledger.now.end c.args.bytes.now ≡ event_calls r.store_end (run_written c.args.event.now.what) r.ledger_end c.args.bytes.now =
    λ i. event_calls (c.requires.ends.store i) (c.run_for-run.ensures i) (c.requires.ends.ledger i) c.args.bytes.now in
    subst (λ (calls : List FileCall). FilesRuns calls
    (files_of (g.D.Disk.file c.args.ledger.now.disk) (g.D.Disk.file c.args.store.now.disk)) (files_of (g.D.Disk.file c.append_to_both.new.ledger.disk) (g.D.Disk.file c.append_to_both.new.store.disk)) c.append_to_both.result)
    plan (c.append_to_both.ensures.runs told)
