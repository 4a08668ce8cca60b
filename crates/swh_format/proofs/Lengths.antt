-- What is written of events is as long as the limits count it.
use Rattle.std.proofs.Common.{◌≡◌, ℕ, ◌+◌, List, [], ◌∷◌, ◌++◌, length, refl, ap, ◌∙◌, arith, length-append}
use Rattle.swh_base.specs.declared.entry.Entry.{Entry}
use Rattle.swh_model.specs.declared.event.Event.{Event}
use Rattle.swh_model.specs.declared.event.EventKind.{EventKind}
use Rattle.swh_model.specs.Entries.{entries_of}
use Rattle.swh_model.specs.Limits.{object_length, run_length, stored_length, store_length, payload_length, records_length, ledger_length}
use Rattle.swh_format.specs.Record.{magic, framed, front}
use Rattle.swh_format.specs.Events.{records}
use Rattle.swh_format.specs.StoredObject.{coded_entry, coded_run}
use Rattle.swh_format.specs.EventRecord.{packed_objects, event_byte, payload_of, coded_record}
use Rattle.swh_format.specs.Stands.{coded_records, coded_runs, all_written}
use Rattle.swh_format.proofs.KindLaws.{kind-length, packed}

pub object-length : (e : Entry) → length (coded_entry e) ≡ object_length e
unfolding coded_entry
object-length e = omega (arith, length-append e.name.id e.body)

pub run-length : (es : List Entry) → length (coded_run es) ≡ run_length es
run-length [] = refl
run-length (e ∷ es) = let one = object-length e in let more = run-length es in omega (arith, one, more, length-append (coded_entry e) (coded_run es))

pub stored-length : (what : EventKind) → length (packed_objects what) ≡ stored_length what
stored-length what = ap length (packed what) ∙ run-length (entries_of what)

-- who in four bytes, and what is said
pub payload-length : (at : ℕ) (e : Event) → length (payload_of at e) ≡ payload_length e.what
payload-length at e = let k = kind-length at e.what in omega (arith, k)

framed-length : (k : ℕ) (p : List ℕ) → length (framed k p) ≡ 5 + length p
unfolding framed
framed-length k p = omega arith

pub coded-length : (at : ℕ) (e : Event) → length (coded_record at e) ≡ 5 + payload_length e.what
coded-length at e = let f = framed-length (event_byte e.what) (payload_of at e) in let p = payload-length at e in omega (arith, f, p)

-- a record with the next gate
pub record-length : (at : ℕ) (e : Event) (bytes : List ℕ) → bytes ≡ coded_record at e ++ 0 ∷ [] → length bytes ≡ 6 + payload_length e.what
record-length at e bytes is = let one = coded-length at e in omega (arith, ap length is, length-append (coded_record at e) (0 ∷ []), one)

pub records-length : (at : ℕ) (h : List Event) → length (coded_records at h) ≡ records_length h
records-length at [] = refl
records-length at (e ∷ h) =
    let one = coded-length at e in
    let more = records-length (at + length (packed_objects e.what)) h in
    omega (arith, one, more, length-append (coded_record at e) (coded_records (at + length (packed_objects e.what)) h))

-- the magic and the records, and the gate after them
pub ledger-length : (h : List Event) → length (front (records (all_written 0 h))) + 1 ≡ ledger_length h
ledger-length h = let n = records-length 0 h in omega (arith, n, length-append magic (coded_records 0 h))

pub runs-length : (h : List Event) → length (coded_runs h) ≡ store_length h
runs-length [] = refl
runs-length (e ∷ h) =
    let one = stored-length e.what in let more = runs-length h in
    omega (arith, one, more, length-append (packed_objects e.what) (coded_runs h))

pub store_length-push : (h : List Event) (e : Event) → store_length (h ++ e ∷ []) ≡ store_length h + stored_length e.what
store_length-push [] e = omega arith
store_length-push (f ∷ h) e = let m = store_length-push h e in omega (arith, m)

records_length-push : (h : List Event) (e : Event) → records_length (h ++ e ∷ []) ≡ records_length h + (6 + payload_length e.what)
records_length-push [] e = omega arith
records_length-push (f ∷ h) e = let m = records_length-push h e in omega (arith, m)

pub ledger_length-push : (h : List Event) (e : Event) → ledger_length (h ++ e ∷ []) ≡ ledger_length h + (6 + payload_length e.what)
ledger_length-push h e = let m = records_length-push h e in omega (arith, m)
