use Rattle.std.proofs.Common.{◌≡◌, ◌<◌, ℕ, false, get_or}
use Rattle.swh_memory_disk.specs.InPlace.{is_at}
use Rattle.swh_memory_disk.specs.declared.depot_file.DepotFile.{DepotFile}
use Rattle.swh_memory_disk.proofs.places.find_place.Given as goal

abbrev pub invariant-loop-i : goal.invariant-loop-i
invariant-loop-i l = (z : DepotFile) (k : ℕ) → k < l.i → is_at l.dir l.file (get_or l.places k z) ≡ false
