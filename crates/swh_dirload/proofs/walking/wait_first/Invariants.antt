use Rattle.std.proofs.Common.{◌≡◌, List, ◌++◌, length, map}
use Rattle.swh_outside.specs.declared.folder.Item as listing
use Rattle.swh_dirload.specs.Found.{found_in}
use Rattle.swh_dirload.proofs.walking.wait_first.Given as goal

abbrev pub invariant-items : goal.invariant-items
invariant-items l = (last : List listing.Item) × (l.fn.items.items ≡ l.items.items ++ last) × (l.waiting.items ≡ map (found_in l.number) last ++ l.fn.waiting.items)

abbrev pub decreases-items : goal.decreases-items
decreases-items l = length l.items.items
