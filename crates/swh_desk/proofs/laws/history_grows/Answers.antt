use Rattle.swh_outside.specs.Views.{disks}
use Rattle.swh_desk.proofs.Grows.{grown}
use Rattle.swh_desk.proofs.laws.history_grows.Goals as goal

pub returns : goal.returns
returns g c = λ id date n turns old new are. grown id (disks g.D.Disk.tells g.D.Disk.file g.D.Disk.faults) date n turns old new are
