-- What is answered where stored bytes are not given.
use Rattle.swh_keeper.specs.declared.stored.StoredFault.{StoredFault}
use Rattle.swh_keeper.specs.declared.stored.StoredFault.TheVariants as stored
use Rattle.swh_check.specs.declared.fault.CheckFault.{CheckFault}
use Rattle.swh_check.specs.declared.fault.CheckFault.TheVariants.{DiskFault, Memory}

abbrev pub check_fault : StoredFault → CheckFault
check_fault stored.DiskFault = DiskFault
check_fault stored.Memory = Memory
