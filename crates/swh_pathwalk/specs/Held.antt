-- Orders of names of which all is held, and the walk over paths as far as it has come.
use Rattle.std.specs.Prelude.{◌≡◌, Option, List, ◌++◌}
use Rattle.swh_base.specs.declared.name.Name.{Name}
use Rattle.swh_model.specs.Archive.{Bodies}
use Rattle.swh_postorder.specs.Cycle.{IsSomePostorder, ArePreceded}
use Rattle.swh_pathwalk.specs.Tree.{Row}
use Rattle.swh_pathwalk.specs.Walk.{Coming, Remain}

-- These are all that is reached from a name, each of them held and behind its children.
pub record IsHeldOrder (children_of : Name → Option (List Name)) (order : List Name) : Type 0 where
  pub some : IsSomePostorder children_of order
  pub preceded : ArePreceded children_of order

-- Of all these rows, the first ones were given, and the rest are yet to come.
pub record IsAt (bodies : Bodies) (all : List Row) (given : List Row) (levels : List Coming) : Type 0 where
  pub rest : List Row
  pub cut : all ≡ given ++ rest
  pub remain : Remain bodies levels rest
