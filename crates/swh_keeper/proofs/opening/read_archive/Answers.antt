use Rattle.std.proofs.lemmas.Result.{IfErr-weaker}
use Rattle.swh_recovery.specs.Records.{IsHarm}
use Rattle.swh_keeper.proofs.DamageLemmas.{damaged_among, damaged_behind}
use Rattle.swh_keeper.proofs.opening.read_archive.Goals as goal

pub returns-in-Ok-clause-damaged : goal.returns-in-Ok-clause-damaged
returns-in-Ok-clause-damaged g c told =
    let ledger = (g.D.Disk.file c.args.ledger.now).seen in
    let store = (g.D.Disk.file c.args.store.now).seen in
    IfErr-weaker c.replay_records.result _ _ (λ why. damaged_among g.N.Namer.id_of ledger store c.in-Ok.history.items why (c.requires told) c.in-Ok.ensures.whole (c.in-Ok.ensures.ok told)) c.replay_records.ensures.refused

pub returns-in-Err-Damaged-clause-damaged : goal.returns-in-Err-Damaged-clause-damaged
returns-in-Err-Damaged-clause-damaged g c told =
    let ledger = (g.D.Disk.file c.args.ledger.now).seen in
    let store = (g.D.Disk.file c.args.store.now).seen in
    let d = c.in-Err-Damaged in
    let harmed : IsHarm g.N.Namer.id_of ledger store d.file d.at d.harm d.before.items = rw d.field-0-is at (d.ensures.damaged told) in
    damaged_behind g.N.Namer.id_of ledger store d.file d.at d.harm d.before.items c.harm_behind.result (c.requires told) harmed c.harm_behind.ensures.at
