use Rattle.std.proofs.Common.{refl, ⊎_elim}
use Rattle.swh_outside.specs.Disk.{Sync, IsFailedCall}
use Rattle.swh_outside.proofs.Images.{recast}
use Rattle.swh_outside.proofs.Plans.{fails, not_begun, just_begun}
use Rattle.swh_memory_disk.specs.Memory.{memory_file}
use Rattle.swh_memory_disk.proofs.disk.MemoryDiskDisk.sync.Goals as goal

pub returns-in_default-clause-runs : goal.returns-in_default-clause-runs
returns-in_default-clause-runs c =
    let old = memory_file c.args.self.now in
    let seen = recast old _ _ refl refl refl c.args.self.now.sees_image in
    let broken : IsFailedCall Sync old (memory_file c.begin.new.self) = ⊎_elim (not_begun Sync old _ seen) (just_begun Sync old _ seen) c.in_default.ensures.err in
    record { ok = tt; err = fails Sync old _ broken }
