-- What the reader of both files answers.
use Rattle.std.specs.Prelude.{ℕ, List}
use Rattle.std.specs.Global.{Vec}
use Rattle.swh_recovery.specs.declared.harm.Harm.{Harm}
use Rattle.swh_recovery.specs.declared.fault.NextFault.{NextFault}
use Rattle.swh_recovery.specs.declared.fault.NextFault.TheVariants as next
use Rattle.swh_model.specs.declared.event.Event.{Event}
use Rattle.swh_recovery.specs.declared.archive.ReadAllFault.{ReadAllFault}
use Rattle.swh_recovery.specs.declared.archive.ReadAllFault.TheVariants.{DiskFault, Damaged, Memory}

-- the fault, with the events before it
abbrev pub all_fault : NextFault → Vec Event → ReadAllFault
all_fault next.DiskFailed before = DiskFault
all_fault next.Memory before = Memory
all_fault (next.Harmed file found) before = Damaged file found.at found.harm before

-- Where it is a harm, it has P.
abbrev pub IfDamaged : ReadAllFault → (ℕ → ℕ → Harm → List Event → Type 0) → Type 0
IfDamaged DiskFault P = Unit {0}
IfDamaged (Damaged file at harm before) P = P file at harm before.items
IfDamaged Memory P = Unit {0}

-- P, unless a disk failed.
abbrev pub UnlessDiskFault : ReadAllFault → Type 0 → Type 0
UnlessDiskFault DiskFault P = Unit {0}
UnlessDiskFault (Damaged file at harm before) P = P
UnlessDiskFault Memory P = P
