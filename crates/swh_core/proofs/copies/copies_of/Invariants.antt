use Rattle.std.proofs.Common.{◌≡◌, map, take}
use Rattle.swh_core.proofs.copies.copies_of.Given as goal

abbrev pub invariant-loop-list : goal.invariant-loop-list
invariant-loop-list l = l.copies.items ≡ map (λ _. l.events) (take l._list-index l.lists)
