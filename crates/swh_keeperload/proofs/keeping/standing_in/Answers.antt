use Rattle.std.proofs.Common.{subst}
use Rattle.swh_outside.specs.Views.{disks}
use Rattle.swh_model.specs.Archive.{Bodies}
use Rattle.swh_store.specs.Adding.{IsStanding}
use Rattle.swh_keeperload.specs.Lawful.{none}
use Rattle.swh_keeperload.proofs.keeping.standing_in.Goals as goal

pub returns-clause-looks : goal.returns-clause-looks
returns-clause-looks g c = none g.N.Namer.id_of (disks g.D.Disk.tells g.D.Disk.file g.D.Disk.faults) 0 c.args.keeper.now c.requires

pub returns-clause-standing : goal.returns-clause-standing
returns-clause-standing g c = subst (λ (b : Bodies). IsStanding b c.args.entry.now c.standing.result) (c.store.ensures c.requires) c.standing.ensures
