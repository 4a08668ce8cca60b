use Rattle.std.proofs.Common.{rules, ◌≡◌, false, sym, subst}
use Rattle.swh_outside.specs.Disk.{File}
use Rattle.swh_recovery.specs.declared.archive.ReadAllFault.{ReadAllFault}
use Rattle.swh_recovery.specs.Records.{IfNextHarmed, HasRuns, BreaksNext, AreWhole, IsHarm}
use Rattle.swh_recovery.specs.Answers.{IfDamaged}
use Rattle.swh_recovery.proofs.AllLemmas.{all_read, all_whole, harmed_whole, next_harmed}
use Rattle.swh_recovery.proofs.archive.read_records.Goals as goal

pub returns-in-Ok-false-clause-whole : goal.returns-in-Ok-false-clause-whole
returns-in-Ok-false-clause-whole g c = all_whole g.N.Namer.id_of c.args.ledger.now c.args.size c.read_next.new.reached c.in-Ok-false.ensures.so_far c.in-Ok-false.ensures.inside c.requires.small c.requires.ledger_small

pub returns-in-Ok-false-clause-ok : goal.returns-in-Ok-false-clause-ok
returns-in-Ok-false-clause-ok g c told =
    let seen = (g.D.Disk.file c.args.store.now).seen in
    let runs = subst (λ (f : File). HasRuns f.seen c.read_next.new.reached) (c.records.invariant.same told) (c.in-Ok-false.ensures.runs told) in
    let no : c.in-Ok-false.field-0 ≡ false = first_of (search rules, cc) in
    all_read g.N.Namer.id_of c.args.ledger.now seen c.read_next.new.reached c.in-Ok-false.ensures.so_far runs (c.in-Ok-false.ensures.end no)

pub returns-in-Err-clause-before : goal.returns-in-Err-clause-before
returns-in-Err-clause-before g c =
    let id_of = g.N.Namer.id_of in
    let i = c.records.invariant in
    subst (λ (f : ReadAllFault). IfDamaged f (λ _ _ _ before. AreWhole id_of before)) (sym c.damaged.ensures)
    (harmed_whole id_of c.in-Err.fault c.records.reached c.read_next.new.reached c.in-Err.ensures.kept (all_whole id_of c.args.ledger.now c.args.size c.records.reached i.so_far i.inside c.requires.small c.requires.ledger_small))

pub returns-in-Err-clause-harm : goal.returns-in-Err-clause-harm
returns-in-Err-clause-harm g c told =
    let id_of = g.N.Namer.id_of in
    let seen = (g.D.Disk.file c.args.store.now).seen in
    let harm = subst (λ (f : File). IfNextHarmed c.in-Err.fault (BreaksNext id_of c.args.ledger.now f.seen c.read_next.new.reached)) (c.records.invariant.same told) (c.in-Err.ensures.harm told) in
    subst (λ (f : ReadAllFault). IfDamaged f (IsHarm id_of c.args.ledger.now seen)) (sym c.damaged.ensures)
    (next_harmed id_of c.args.ledger.now seen c.in-Err.fault c.read_next.new.reached harm)
