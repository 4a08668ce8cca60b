use Rattle.std.specs.Prelude.{Contains, ◌<◌, ◌+◌, length}
use Rattle.std.proofs.Common.{take}
use Rattle.swh_base.specs.Limits.{path_limit}
use Rattle.swh_dirfmt.specs.declared.entry.SpelledEntry.{SpelledEntry}
use Rattle.swh_carried.proofs.long.first_long.Given as goal

abbrev pub invariant-loop-entry : goal.invariant-loop-entry
invariant-loop-entry l = (e : SpelledEntry) → Contains (take l.entry-index l.entries) e → path_limit < l.way + length e.name.now → ⊥
