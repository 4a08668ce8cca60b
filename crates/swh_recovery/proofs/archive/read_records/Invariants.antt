use Rattle.std.proofs.Common.{◌≡◌, ◌-◌, length}
use Rattle.swh_recovery.specs.Records.{HasRuns, IsReadSoFar, IsInside}
use Rattle.swh_recovery.proofs.archive.read_records.Given as goal

abbrev pub invariant-records : goal.invariant-records
invariant-records g l = record {
  so_far : IsReadSoFar g.N.Namer.id_of l.ledger l.reached;
  runs : g.D.Disk.tells → HasRuns (g.D.Disk.file l.fn.store).seen l.reached;
  inside : IsInside (length l.ledger) l.size l.reached;
  same : g.D.Disk.tells → g.D.Disk.file l.store ≡ g.D.Disk.file l.fn.store;
  quiet : g.D.Disk.faults l.store ≡ g.D.Disk.faults l.fn.store;
}

abbrev pub decreases-records : goal.decreases-records
decreases-records g l = length l.ledger - l.reached.gate
