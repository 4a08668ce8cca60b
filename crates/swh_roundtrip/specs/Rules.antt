-- The rules of streams that are of the objects and their names: all but the last two, which are of the text and of what it loads.
use Rattle.std.specs.Prelude.{List}
use Rattle.swh_base.specs.declared.name.Name.{Name}
use Rattle.swh_model.specs.Archive.{Bodies}
use Rattle.swh_carried.specs.declared.fault.Why.{Why}
use Rattle.swh_fastcarried.specs.Rules.{BreaksIn}

-- which of these rules a name breaks
abbrev pub BreaksObjects : Bodies → Name → List Name → Name → Why → Type 0
BreaksObjects bodies root order = BreaksIn bodies root order ⊥ ⊥
