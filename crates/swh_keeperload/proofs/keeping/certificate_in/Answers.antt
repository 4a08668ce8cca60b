use Rattle.swh_outside.specs.Views.{disks}
use Rattle.swh_keeperload.specs.Lawful.{none}
use Rattle.swh_keeperload.proofs.keeping.certificate_in.Goals as goal

pub returns-clause-looks : goal.returns-clause-looks
returns-clause-looks g c = none g.N.Namer.id_of (disks g.D.Disk.tells g.D.Disk.file g.D.Disk.faults) 0 c.args.keeper.now c.requires
