use Rattle.std.specs.Prelude.{Contains}
use Rattle.std.proofs.Common.{take}
use Rattle.swh_carried.specs.Rules.{IsDots}
use Rattle.swh_dirfmt.specs.declared.entry.SpelledEntry.{SpelledEntry}
use Rattle.swh_fastcarried.proofs.directories.first_dots.Given as goal

abbrev pub invariant-loop-entry : goal.invariant-loop-entry
invariant-loop-entry l = (e : SpelledEntry) → Contains (take l.entry-index l.entries) e → IsDots e.name.now → ⊥
