use Rattle.std.proofs.Common.{Err, ap, sym, subst}
use Rattle.swh_outside.specs.Views.{disks}
use Rattle.swh_plan.specs.Plan.{wish_of}
use Rattle.swh_ingest.specs.declared.refusal.Refusal.{Refusal}
use Rattle.swh_ingest.specs.Knowing.{RefusesPlan}
use Rattle.swh_keeperload.specs.Alone.{alone_protocol}
use Rattle.swh_keeperload.proofs.Applying.{carried, refused}
use Rattle.swh_keeperload.proofs.keeping.carry_out.Goals as goal

pub returns-in-Ok-clause-ok : goal.returns-in-Ok-clause-ok
returns-in-Ok-clause-ok g c =
    carried g.N.Namer.id_of (disks g.D.Disk.tells g.D.Disk.file g.D.Disk.faults) c.args.by (wish_of c.args.plan) c.args.keeper.now c.apply.new.self c.in-Ok.outcome c.in-Ok.ensures.ok c.history-after.ensures.kept.history
    c.in-Ok.ensures.unwounded c.in-Ok.ensures.store_later c.in-Ok.ensures.ledger_later c.in-Ok.ensures.calls

pub returns-in-Err-clause-err : goal.returns-in-Err-clause-err
returns-in-Err-clause-err g c =
    let d = disks g.D.Disk.tells g.D.Disk.file g.D.Disk.faults in
    subst (λ (r : Refusal). RefusesPlan g.N.Namer.id_of (alone_protocol g.N.Namer.id_of d c.args.by) (wish_of c.args.plan) c.args.keeper.now c.apply.new.self r) (sym c.refused.ensures)
    (refused g.N.Namer.id_of d c.args.by (wish_of c.args.plan) c.args.keeper.now c.apply.new.self c.in-Err.refusal c.ranges.by.fits c.plan_fits.ensures.good c.plan_fits.ensures.fits c.history-before.ensures.kept c.in-Err.ensures.err c.in-Err.ensures.store_later c.in-Err.ensures.ledger_later
    (λ e. c.in-Err.ensures.cause (ap Err e)) (λ told e. c.in-Err.ensures.broken told (ap Err e)))
