use Rattle.std.specs.Prelude.{Contains}
use Rattle.std.proofs.Common.{take}
use Rattle.swh_base.specs.declared.name.Name.{Name}
use Rattle.swh_carried.specs.Uncarried.{BreaksNone}
use Rattle.swh_dircook.specs.Rules.{BreaksIn}
use Rattle.swh_dircook.proofs.first.first_in.Given as goal

abbrev pub invariant-loop-name : goal.invariant-loop-name
invariant-loop-name g l = (n : Name) → Contains (take l.name-index l.names) n → BreaksNone (BreaksIn (g.L.Look.archive l.look).bodies l.root ⊥) n
