use Rattle.std.specs.Prelude.{Contains}
use Rattle.std.proofs.Common.{take}
use Rattle.swh_base.specs.declared.name.Name.{Name}
use Rattle.swh_model.specs.Walk.{GainsHeld}
use Rattle.swh_model.proofs.walking.list_held.Given as goal

abbrev pub invariant-loop-child : goal.invariant-loop-child
invariant-loop-child l = record {
  gains : GainsHeld l.state.bodies l.kids l.initial.names.items l.names.items;
  all : (n : Name) → Contains (take l.child-index l.kids) n → Contains l.names.items n;
}
