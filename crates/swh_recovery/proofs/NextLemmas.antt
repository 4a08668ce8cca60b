-- Faults of the next record.
use Rattle.std.proofs.Common.{ℕ}
use Rattle.swh_recovery.specs.declared.harm.Found.{Found}
use Rattle.swh_recovery.specs.declared.fault.ReadFault.{ReadFault}
use Rattle.swh_recovery.specs.declared.fault.ReadFault.TheVariants as read
use Rattle.swh_recovery.specs.declared.fault.NextFault.{NextFault}
use Rattle.swh_recovery.specs.declared.fault.NextFault.TheVariants as next
use Rattle.swh_recovery.specs.Reading.{IfHarmed}
use Rattle.swh_recovery.specs.Records.{in_file, IfNextHarmed}

pub in_file_harmed : (file : ℕ) (fault : ReadFault) (P : Found → Type 0) (Q : ℕ → Found → Type 0) → ((x : Found) → P x → Q file x) → IfHarmed fault P → IfNextHarmed (in_file file fault) Q
in_file_harmed file read.DiskFailed P Q f h = tt
in_file_harmed file read.Memory P Q f h = tt
in_file_harmed file (read.Harmed found) P Q f h = f found h

pub next_map : (fault : NextFault) (P Q : ℕ → Found → Type 0) → ((k : ℕ) (x : Found) → P k x → Q k x) → IfNextHarmed fault P → IfNextHarmed fault Q
next_map next.DiskFailed P Q f h = tt
next_map next.Memory P Q f h = tt
next_map (next.Harmed k found) P Q f h = f k found h

pub next_always : (fault : NextFault) (P : ℕ → Found → Type 0) → ((k : ℕ) (x : Found) → P k x) → IfNextHarmed fault P
next_always next.DiskFailed P f = tt
next_always next.Memory P f = tt
next_always (next.Harmed k found) P f = f k found
