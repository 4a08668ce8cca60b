-- The device calls of an event are on two files, and the gate that a crash leaves tells whether it happened.
use Rattle.std.proofs.Common.{◌≡◌, ◌≢◌, inl, inr, ℕ, ◌+◌, ◌<◌, List, [], ◌∷◌, ◌++◌, length, get_or, sym, ap, ◌∙◌, refl, arith}
use Rattle.std.specs.List.{AllByRecursion}
use Rattle.swh_outside.specs.Files.{FileCall, Images, on}
use Rattle.swh_model.specs.declared.event.Event.{Event}
use Rattle.swh_model.specs.Limits.{store_length, records_length}
use Rattle.swh_format.specs.Record.{front, body}
use Rattle.swh_format.specs.Events as format
use Rattle.swh_format.specs.EventRecord.{coded_record, run_written}
use Rattle.swh_format.specs.Stands.{StandsFor, written, all_written}
use Rattle.swh_format.proofs.HistoryFiles.{written-at}
use Rattle.swh_format.proofs.Lengths.{ledger-length}
use Rattle.swh_format.proofs.Gates.{front-push}
use Rattle.swh_segment.specs.Calls.{run_calls, append_calls, calls_for}
use Rattle.swh_segment.specs.Standing.{WithOrWithout}
use Rattle.swh_segment.proofs.EventsCrash.{records-push}
use Rattle.swh_core.proofs.Files.{all_both, all_on}

pub calls_on_two : (h : List Event) (e : Event) → AllByRecursion (λ (c : FileCall). c.0 < 2) (calls_for h e)
calls_on_two h e =
    all_both (λ (c : FileCall). c.0 < 2) (on 1 (run_calls (store_length h) (run_written e.what))) (on 0 (append_calls (8 + records_length h) (coded_record (store_length h) e ++ 0 ∷ [])))
    (all_on 1 (run_calls (store_length h) (run_written e.what)) (omega arith)) (all_on 0 (append_calls (8 + records_length h) (coded_record (store_length h) e ++ 0 ∷ [])) (omega arith))

behind_front : (xs : List ℕ) (x : ℕ) (rest : List ℕ) → get_or (xs ++ x ∷ rest) (length xs) 0 ≡ x
behind_front [] x rest = refl
behind_front (y ∷ xs) x rest = behind_front xs x rest

-- the gate after the records of a history
gate_at : (h : List Event) (ledger rest : List ℕ) (gate : ℕ) → ledger ≡ front (format.records (all_written 0 h)) ++ gate ∷ rest → get_or ledger (8 + records_length h) 0 ≡ gate
gate_at h ledger rest gate is =
    let place : 8 + records_length h ≡ length (front (format.records (all_written 0 h))) = let n = ledger-length h in omega (arith, n) in
    ap (λ (l : List ℕ). get_or l (8 + records_length h) 0) is ∙ ap (λ (k : ℕ). get_or (front (format.records (all_written 0 h)) ++ gate ∷ rest) k 0) place ∙ behind_front (front (format.records (all_written 0 h))) gate rest

closed_without : (h : List Event) (ledger store : List ℕ) → StandsFor ledger store h → get_or ledger (8 + records_length h) 0 ≢ 1
closed_without h ledger store s open_gate = let st = s.files.ledger_stands in st.closed (sym (gate_at h ledger st.rest st.gate st.split) ∙ open_gate)

open_with : (h : List Event) (e : Event) (ledger store : List ℕ) → StandsFor ledger store (h ++ e ∷ []) → get_or ledger (8 + records_length h) 0 ≡ 1
open_with h e ledger store s =
    let st = s.files.ledger_stands in
    let one = written (store_length h) e in
    let rs = format.records (all_written 0 h) in
    let are : format.records (all_written 0 (h ++ e ∷ [])) ≡ rs ++ one.entry ∷ [] = ap format.records (written-at h e (store_length h) refl) ∙ records-push (all_written 0 h) one in
    gate_at h ledger (body one.entry ++ st.gate ∷ st.rest) 1 (st.split ∙ ap (λ (l : List _). front l ++ st.gate ∷ st.rest) are ∙ front-push rs one.entry (st.gate ∷ st.rest))

-- an open gate says that the event happened, a closed one that it did not
pub gate_tells_with : (h : List Event) (e : Event) (images : Images) → WithOrWithout h e images → get_or (images 0) (8 + records_length h) 0 ≡ 1 → StandsFor (images 0) (images 1) (h ++ e ∷ [])
gate_tells_with h e images (inl without) open_gate = absurd (closed_without h (images 0) (images 1) without open_gate)
gate_tells_with h e images (inr with_it) open_gate = with_it

pub gate_tells_without : (h : List Event) (e : Event) (images : Images) → WithOrWithout h e images → get_or (images 0) (8 + records_length h) 0 ≢ 1 → StandsFor (images 0) (images 1) h
gate_tells_without h e images (inl without) shut = without
gate_tells_without h e images (inr with_it) shut = absurd (shut (open_with h e (images 0) (images 1) with_it))
