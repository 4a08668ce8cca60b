use Rattle.std.proofs.Common.{rules, ◌≡◌, ℕ, List, ◌++◌, true, false, length, drop, sym, ap, ◌∙◌, subst, arith}
use Rattle.swh_base.specs.declared.entry.Entry.{Entry}
use Rattle.swh_format.specs.StoredObject.{coded_run}
use Rattle.swh_recovery.specs.declared.harm.Found.{Found}
use Rattle.swh_recovery.specs.declared.fault.NextFault.{NextFault}
use Rattle.swh_recovery.specs.Records.{IfNextHarmed, IsToldExactly, EventBreaks}
use Rattle.swh_recovery.proofs.NextLemmas.{in_file_harmed}
use Rattle.swh_recovery.proofs.EventLemmas.{batch_event, run_harm, run_refused, batch_read, run_told}
use Rattle.swh_recovery.proofs.event.read_batch.Goals as goal

pub returns-in-Err-clause-harm : goal.returns-in-Err-clause-harm
returns-in-Err-clause-harm g c told =
    let seen = (g.D.Disk.file c.args.store.now).seen in
    let t = c.run_told-told.result in
    let breaks = EventBreaks g.N.Namer.id_of c.args.place.number c.args.place.gate c.args.place.start c.args.parts.now seen in
    subst (λ (f : NextFault). IfNextHarmed f breaks) (sym c.in_store.ensures)
    (in_file_harmed 1 c.in-Err.fault _ breaks
    (λ (x : Found). λ h. run_harm g.N.Namer.id_of c.args.place.start c.args.parts.now c.requires.whole c.requires.batch t c.run_told-told.ensures seen c.args.place.number c.args.place.gate x h) (c.in-Err.ensures.harm told))

pub returns-then-not-is_told_exactly-clause-harm : goal.returns-then-not-is_told_exactly-clause-harm
returns-then-not-is_told_exactly-clause-harm g c told =
    let seen = (g.D.Disk.file c.args.store.now).seen in
    let t = c.run_told-told.result in
    let breaks = EventBreaks g.N.Namer.id_of c.args.place.number c.args.place.gate c.args.place.start c.args.parts.now seen in
    let no : c.is_told_exactly.result ≡ false = search rules in
    let size : length c.in-Ok.entries.items ≡ length c.as_slice.result.now = ap length (sym c.as_slice.ensures.value) in
    subst (λ (f : NextFault). IfNextHarmed f breaks) (sym c.refused.ensures)
    (run_refused g.N.Namer.id_of c.args.place.start c.args.parts.now c.requires.whole c.requires.batch t c.run_told-told.ensures seen c.in-Ok.entries.items (c.in-Ok.ensures.ok told) c.args.place.number c.args.place.gate
    (λ exact. let yes : c.is_told_exactly.result ≡ true = c.is_told_exactly.ensures.no (subst (λ (n : ℕ). IsToldExactly c.args.place.start n t) size exact) in cc))

pub returns-clause-read : goal.returns-clause-read
returns-clause-read g c =
    let t = c.run_told-told.result in
    let es = c.in-Ok.entries.items in
    let run = c.in-Ok.ensures.whole in
    let size : length c.as_slice.result.now ≡ length c.in-Ok.entries.items = ap length c.as_slice.ensures.value in
    let yes : c.is_told_exactly.result ≡ true = search rules in
    let exact : IsToldExactly c.args.place.start (length c.in-Ok.entries.items) c.run_told-told.result = subst (λ (n : ℕ). IsToldExactly c.args.place.start n c.run_told-told.result) size (c.is_told_exactly.ensures.yes yes) in
    let id_of = g.N.Namer.id_of in
    let p = c.args.parts.now in
    batch_read id_of c.args.place.start p c.requires.whole c.requires.batch t c.run_told-told.ensures es run exact _ (ap (λ (l : List Entry). batch_event t.by l) c.from_vec.ensures)

pub returns-clause-inside : goal.returns-clause-inside
returns-clause-inside g c =
    let size : length c.as_slice.result.now ≡ length c.in-Ok.entries.items = ap length c.as_slice.ensures.value in
    let yes : c.is_told_exactly.result ≡ true = search rules in
    let exact : IsToldExactly c.args.place.start (length c.as_slice.result.now) c.run_told-told.result = c.is_told_exactly.ensures.yes yes in
    let from_is = exact.from_is in
    let inside = c.in-Ok.ensures.inside in
    let start = c.requires.inside in
    omega (arith, from_is, inside, start)

pub returns-clause-holds : goal.returns-clause-holds
returns-clause-holds g c told =
    let t = c.run_told-told.result in
    let es = c.in-Ok.entries.items in
    let size : length c.as_slice.result.now ≡ length c.in-Ok.entries.items = ap length c.as_slice.ensures.value in
    let yes : c.is_told_exactly.result ≡ true = search rules in
    let exact : IsToldExactly c.args.place.start (length c.in-Ok.entries.items) c.run_told-told.result = subst (λ (n : ℕ). IsToldExactly c.args.place.start n c.run_told-told.result) size (c.is_told_exactly.ensures.yes yes) in
    record { run = run_told g.N.Namer.id_of c.args.place.start c.args.parts.now c.requires.whole c.requires.batch t c.run_told-told.ensures es c.in-Ok.ensures.whole exact (g.D.Disk.file c.args.store.now).seen (c.in-Ok.ensures.ok told) ∙ ap (λ (l : List Entry). coded_run l ++ drop t.to (g.D.Disk.file c.args.store.now).seen) (sym c.from_vec.ensures) }
