use Rattle.std.proofs.Common.{rules, ◌≡◌, ℕ, ◌+◌, List, [], ◌∷◌, ◌++◌, length, drop, refl, ap, ◌∙◌, arith}
use Rattle.std.proofs.lemmas.Grind.{common_steps}
use Rattle.swh_recovery.specs.declared.harm.Found.{Found}
use Rattle.swh_model.specs.declared.event.Event.{Event}
use Rattle.swh_recovery.specs.LedgerHarm.{IsRecordWithFields}
use Rattle.swh_recovery.specs.Records.{records_of}
use Rattle.swh_recovery.proofs.FrameLemmas.{exits}
use Rattle.swh_recovery.proofs.NextLemmas.{next_map, next_always}
use Rattle.swh_recovery.proofs.SoFarLemmas.{no_gate, record_breaks, event_breaks, so_far_next, runs_next}
use Rattle.swh_recovery.proofs.reading.read_next.Goals as goal

pub returns-in_default-clause-harm : goal.returns-in_default-clause-harm
returns-in_default-clause-harm g c told =
    let none : drop c.args.reached.now.gate c.args.ledger.now ≡ [] = first_of (search rules, grind (arith, common_steps, c.in_default.ensures.none)) in
    no_gate g.N.Namer.id_of c.args.ledger.now (g.D.Disk.file c.args.store.now).seen c.args.reached.now c.requires.so_far (c.requires.runs told) c.cut.result none c.cut.ensures

pub returns-in-Err-clause-harm : goal.returns-in-Err-clause-harm
returns-in-Err-clause-harm g c told =
    let at : drop c.args.reached.now.gate c.args.ledger.now ≡ c.in-Some.gate ∷ c.in-Some.behind.now = first_of (search rules, grind (arith, common_steps, c.in-Some.ensures.some)) in
    let opened = at ∙ ap (λ (n : ℕ). n ∷ c.in-Some.behind.now) c.if-gate-ne-OPEN.false in
    record_breaks g.N.Namer.id_of c.args.ledger.now (g.D.Disk.file c.args.store.now).seen c.args.reached.now c.requires.so_far (c.requires.runs told) c.in-Some.behind.now c.in-Err.found opened c.in-Err.ensures.err

pub returns-in_err-event-clause-harm : goal.returns-in_err-event-clause-harm
returns-in_err-event-clause-harm g c told =
    let seen = (g.D.Disk.file c.args.store.now).seen in
    let at : drop c.args.reached.now.gate c.args.ledger.now ≡ c.in-Some.gate ∷ c.in-Some.behind.now = first_of (search rules, grind (arith, common_steps, c.in-Some.ensures.some)) in
    let frame : IsRecordWithFields c.in-Some.behind.now c.in-Ok.parts = c.in-Ok.ensures.ok in
    let opened : drop c.args.reached.now.gate c.args.ledger.now ≡ records_of c.in-Ok.parts =
    at ∙ ap (λ (n : ℕ). n ∷ c.in-Some.behind.now) c.if-gate-ne-OPEN.false ∙ ap (λ (l : List ℕ). 1 ∷ l) frame.frame.front.spelled in
    let numbered = ap (λ (l : List Event). length l + 1) c.as_slice.ensures.value in
    exits _ _ c.in_err-event.field-0.0 c.from_residual.ensures.1
    (next_map c.in_err-event.field-0.0 _ _
    (λ (k : ℕ) (x : Found). λ breaks. event_breaks g.N.Namer.id_of c.args.ledger.now seen c.args.reached.now c.requires.so_far (c.requires.runs told) c.in-Ok.parts k x (length c.as_slice.result.now + 1) numbered opened breaks) (c.in_err-event.ensures.harm told))

pub returns-in_err-event-clause-kept : goal.returns-in_err-event-clause-kept
returns-in_err-event-clause-kept g c = exits _ _ c.in_err-event.field-0.0 c.from_residual.ensures.1 (next_always c.in_err-event.field-0.0 _ (λ k x. refl))

pub returns-clause-so_far : goal.returns-clause-so_far
returns-clause-so_far g c =
    let at : drop c.args.reached.now.gate c.args.ledger.now ≡ c.in-Some.gate ∷ c.in-Some.behind.now = first_of (search rules, grind (arith, common_steps, c.in-Some.ensures.some)) in
    let frame : IsRecordWithFields c.in-Some.behind.now c.in-Ok.parts = c.in-Ok.ensures.ok in
    let opened : drop c.args.reached.now.gate c.args.ledger.now ≡ records_of c.in-Ok.parts =
    at ∙ ap (λ (n : ℕ). n ∷ c.in-Some.behind.now) c.if-gate-ne-OPEN.false ∙ ap (λ (l : List ℕ). 1 ∷ l) frame.frame.front.spelled in
    let items : c.push.new.self.items ≡ c.args.reached.now.events.items ++ c.in_ok-event.event ∷ [] = search rules in
    so_far_next g.N.Namer.id_of c.args.ledger.now c.args.reached.now c.requires.so_far c.in-Ok.parts c.in_ok-event.event c.in_ok-event.end opened c.in_ok-event.ensures.read _ refl refl items

pub returns-clause-runs : goal.returns-clause-runs
returns-clause-runs g c told =
    let items : c.push.new.self.items ≡ c.args.reached.now.events.items ++ c.in_ok-event.event ∷ [] = search rules in
    runs_next (g.D.Disk.file c.args.store.now).seen c.args.reached.now _ c.in_ok-event.event (c.requires.runs told) (c.in_ok-event.ensures.holds told) items
