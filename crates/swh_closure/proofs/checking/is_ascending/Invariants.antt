use Rattle.std.specs.List.Sorted.{IsSortedWithin}
use Rattle.std.specs.Ordering.{is_lt}
use Rattle.swh_base.specs.Name.{name_cmp}
use Rattle.swh_closure.proofs.checking.is_ascending.Given as goal

abbrev pub invariant-loop-place : goal.invariant-loop-place
invariant-loop-place l = IsSortedWithin (λ x y. is_lt (name_cmp x y)) l.names 0 l.place
