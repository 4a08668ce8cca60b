-- Lengths, as far as a loop has come.
use Rattle.std.proofs.Common.{◌≡◌, ℕ, zero, suc, ◌+◌, ◌<◌, ◌≤◌, List, [], ◌∷◌, ◌++◌, length, take, get_or, ap, ◌∙◌, arith}
use Rattle.swh_base.specs.declared.entry.Entry.{Entry}
use Rattle.swh_model.specs.declared.event.Event.{Event}
use Rattle.swh_model.specs.Limits.{object_length, run_length, stored_length, store_length, payload_length, records_length, ledger_length}
use Rattle.swh_model.proofs.PlainLists.{take-more}

run-push : (es : List Entry) (e : Entry) → run_length (es ++ e ∷ []) ≡ run_length es + object_length e
run-push [] e = omega arith
run-push (x ∷ es) e = let h = run-push es e in omega (arith, h)

pub run-next : (es : List Entry) (k : ℕ) (e : Entry) → k < length es → e ≡ get_or es k e → run_length (take (k + 1) es) ≡ run_length (take k es) + object_length e
run-next es k e less is = ap run_length (take-more es k e less is) ∙ run-push (take k es) e

store-push : (h : List Event) (e : Event) → store_length (h ++ e ∷ []) ≡ store_length h + stored_length e.what
store-push [] e = omega arith
store-push (x ∷ h) e = let l = store-push h e in omega (arith, l)

pub store-next : (h : List Event) (k : ℕ) (e : Event) → k < length h → e ≡ get_or h k e → store_length (take (k + 1) h) ≡ store_length (take k h) + stored_length e.what
store-next h k e less is = ap store_length (take-more h k e less is) ∙ store-push (take k h) e

records-push : (h : List Event) (e : Event) → records_length (h ++ e ∷ []) ≡ records_length h + (6 + payload_length e.what)
records-push [] e = omega arith
records-push (x ∷ h) e = let l = records-push h e in omega (arith, l)

pub ledger-next : (h : List Event) (k : ℕ) (e : Event) → k < length h → e ≡ get_or h k e → ledger_length (take (k + 1) h) ≡ ledger_length (take k h) + (6 + payload_length e.what)
ledger-next h k e less is =
    let l = ap records_length (take-more h k e less is) ∙ records-push (take k h) e in omega (arith, l)

-- each part is within the whole
pub run-within : (es : List Entry) (k : ℕ) (e : Entry) → k < length es → e ≡ get_or es k e → run_length (take k es) + object_length e ≤ run_length es
run-within [] k e less is = absurd (omega (arith, less))
run-within (f ∷ es) zero e less is = let same = ap object_length is in omega (arith, same)
run-within (f ∷ es) (suc k) e less is = let more = run-within es k e (omega (arith, less)) is in omega (arith, more)

pub store-within : (h : List Event) (k : ℕ) (e : Event) → k < length h → e ≡ get_or h k e → store_length (take k h) + stored_length e.what ≤ store_length h
store-within [] k e less is = absurd (omega (arith, less))
store-within (f ∷ h) zero e less is = let same = ap (λ (x : Event). stored_length x.what) is in omega (arith, same)
store-within (f ∷ h) (suc k) e less is = let more = store-within h k e (omega (arith, less)) is in omega (arith, more)

records-within : (h : List Event) (k : ℕ) (e : Event) → k < length h → e ≡ get_or h k e → records_length (take k h) + (6 + payload_length e.what) ≤ records_length h
records-within [] k e less is = absurd (omega (arith, less))
records-within (f ∷ h) zero e less is = let same = ap (λ (x : Event). payload_length x.what) is in omega (arith, same)
records-within (f ∷ h) (suc k) e less is = let more = records-within h k e (omega (arith, less)) is in omega (arith, more)

pub ledger-within : (h : List Event) (k : ℕ) (e : Event) → k < length h → e ≡ get_or h k e → ledger_length (take k h) + (6 + payload_length e.what) ≤ ledger_length h
ledger-within h k e less is = let l = records-within h k e less is in omega (arith, l)
