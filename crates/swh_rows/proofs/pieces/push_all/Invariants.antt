use Rattle.std.proofs.Common.{◌≡◌, ◌++◌, take}
use Rattle.swh_rows.specs.Pieces.{joined}
use Rattle.swh_rows.proofs.pieces.push_all.Given as goal

abbrev pub invariant-loop-list : goal.invariant-loop-list
invariant-loop-list g l = l.pieces ≡ l.initial.pieces ++ joined (take l.list-index l.lists)
