use Rattle.std.proofs.Common.{ℕ}
use Rattle.swh_recovery.specs.declared.harm.Found.{Found}
use Rattle.swh_recovery.proofs.NextLemmas.{next_map}
use Rattle.swh_recovery.proofs.WholeLemmas.{whole_read, whole_holds, whole_refused}
use Rattle.swh_recovery.proofs.event.read_event.Goals as goal

pub returns-in-Ok-clause-read : goal.returns-in-Ok-clause-read
returns-in-Ok-clause-read g c = whole_read g.N.Namer.id_of c.args.place.start c.args.parts.now c.in-Ok.event c.if-parts-eq66.false c.in-Ok.ensures.ok

pub returns-in-Ok-clause-holds : goal.returns-in-Ok-clause-holds
returns-in-Ok-clause-holds g c told = whole_holds c.args.place.start c.args.parts.now (g.D.Disk.file c.args.store.now).seen c.in-Ok.event c.if-parts-eq66.false c.in-Ok.ensures.ok

pub returns-in-Err-clause-harm : goal.returns-in-Err-clause-harm
returns-in-Err-clause-harm g c told =
    next_map c.in-Err.fault _ _
    (λ (k : ℕ) (x : Found). λ n. whole_refused g.N.Namer.id_of c.args.place.number c.args.place.gate c.args.place.start c.args.parts.now (g.D.Disk.file c.args.store.now).seen k x c.if-parts-eq66.false c.requires.whole n) c.in-Err.ensures.harm
