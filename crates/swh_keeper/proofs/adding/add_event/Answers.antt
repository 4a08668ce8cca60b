use Rattle.std.proofs.Common.{rules, ◌+◌, length, ap, ◌∙◌, arith}
use Rattle.swh_keeper.proofs.KeptLemmas.{replay_of-push}
use Rattle.swh_format.proofs.Lengths.{stored-length, record-length}
use Rattle.swh_keeper.proofs.adding.add_event.Goals as goal

pub returns-clause-added : goal.returns-clause-added
returns-clause-added g c =
    let r = c.args.replayed.now in
    let e = c.args.planned.event in
    let adv = c.in_ok-advance.ensures.ok in
    let run_long = ap length (c.as_slice.ensures.value ∙ c.requires.to_add.run_is) ∙ stored-length e.what in
    let bytes_long = ap length c.as_slice-2.ensures.value ∙ record-length r.store_end e c.args.planned.bytes.items c.requires.to_add.bytes_are in
    let same_store = adv.store_end in let same_ledger = adv.ledger_end in
    let replayed = replay_of-push r c.advance.new.replayed c.args.history.now.items e c.requires.replay adv (c.advance.new.replayed.store_end + length c.as_slice.result.now) (c.advance.new.replayed.ledger_end + length c.as_slice-2.result.now)
    (omega (arith, run_long, same_store)) (omega (arith, bytes_long, same_ledger)) in
    record { history = search rules; replay = replayed; in_files = search rules }
