use Rattle.std.proofs.Common.{◌≡◌, ◌++◌, length}
use Rattle.swh_forest.specs.Arena.{parts_of}
use Rattle.swh_fastlex.specs.Path.{components}
use Rattle.swh_forest.proofs.path.components_of.Given as goal

abbrev pub invariant-parts : goal.invariant-parts
invariant-parts l = parts_of l.parts.items ++ components l.rest ≡ components l.path

abbrev pub decreases-parts : goal.decreases-parts
decreases-parts l = length l.rest
