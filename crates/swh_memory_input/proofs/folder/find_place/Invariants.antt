use Rattle.std.proofs.Common.{◌≡◌, ◌<◌, ℕ, false, get_or}
use Rattle.swh_memory_input.specs.Folders.{is_place_at}
use Rattle.swh_memory_input.specs.declared.path_item.PathItem.{PathItem}
use Rattle.swh_memory_input.proofs.folder.find_place.Given as goal

abbrev pub invariant-loop-i : goal.invariant-loop-i
invariant-loop-i l = (z : PathItem) (k : ℕ) → k < l.i → is_place_at l.path (get_or l.places k z) ≡ false
