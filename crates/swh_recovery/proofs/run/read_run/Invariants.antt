use Rattle.std.proofs.Common.{◌≡◌, ◌+◌, ◌-◌, ◌*◌, ◌≤◌, ◌++◌, max, min, length, drop, vec_len, vec_capacity}
use Rattle.swh_format.specs.StoredObject.{coded_run}
use Rattle.swh_recovery.specs.StoreHarm.{AreObjects}
use Rattle.swh_recovery.specs.Pieces.{IsPieceOf}
use Rattle.swh_recovery.proofs.run.read_run.Given as goal

abbrev pub invariant-objects : goal.invariant-objects
invariant-objects g l = record {
  place_is : l.place ≡ l.from + length (coded_run l.entries.items);
  inside : l.place ≤ max l.from (min l.to l.size);
  room : vec_capacity l.entries ≤ 2 * vec_len l.entries;
  objects : AreObjects g.N.Namer.id_of l.entries.items;
  begins : g.D.Disk.tells → drop l.from (g.D.Disk.file l.fn.store).seen ≡ coded_run l.entries.items ++ drop l.place (g.D.Disk.file l.fn.store).seen;
  piece : g.D.Disk.tells → IsPieceOf (g.D.Disk.file l.fn.store).seen l.piece;
  same : g.D.Disk.tells → g.D.Disk.file l.store ≡ g.D.Disk.file l.fn.store;
  quiet : g.D.Disk.faults l.store ≡ g.D.Disk.faults l.fn.store;
}

abbrev pub decreases-objects : goal.decreases-objects
decreases-objects g l = l.to - l.place
