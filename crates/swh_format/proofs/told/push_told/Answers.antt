use Rattle.std.proofs.Common.{◌≡◌, ◌+◌, ◌++◌, OnOk, length, sym, subst}
use Rattle.swh_model.specs.declared.event.EventKind.{EventKind}
use Rattle.swh_format.specs.StoredObject.{coded_run}
use Rattle.swh_format.specs.EventRecord.{event_payload}
use Rattle.swh_format.proofs.told.push_told.Goals as goal

pub returns-in-Batch : goal.returns-in-Batch
returns-in-Batch c =
    let end_is : c.args.end ≡ c.args.at + length (coded_run c.in-Batch.entries) = rw c.in-Batch.is at c.requires.run in
    let pushed = rw end_is at c.push_batch.ensures in
    subst (λ (w : EventKind). OnOk c.push_batch.result (c.push_batch.new.bytes.items ≡ c.args.bytes.now.items ++ event_payload c.args.at w)) (sym c.in-Batch.is) (rw c.as_slice.ensures at pushed)

pub returns-in-Open : goal.returns-in-Open
returns-in-Open c =
    subst (λ (w : EventKind). OnOk c.push_open.result (c.push_open.new.bytes.items ≡ c.args.bytes.now.items ++ event_payload c.args.at w)) (sym c.in-Open.is) c.push_open.ensures

pub returns-in-Mark : goal.returns-in-Mark
returns-in-Mark c =
    subst (λ (w : EventKind). OnOk c.push_mark.result (c.push_mark.new.bytes.items ≡ c.args.bytes.now.items ++ event_payload c.args.at w)) (sym c.in-Mark.is) c.push_mark.ensures
