use Rattle.std.specs.Prelude.{Contains}
use Rattle.std.proofs.Common.{take}
use Rattle.swh_dirfmt.specs.declared.entry.SpelledEntry.{SpelledEntry}
use Rattle.swh_dirfmt.specs.Entries.{entry_of}
use Rattle.swh_fastcarried.specs.First.{IsFolderOf}
use Rattle.swh_fastcarried.proofs.folders.lead_to.Given as goal

abbrev pub invariant-loop-entry : goal.invariant-loop-entry
invariant-loop-entry l = (e : SpelledEntry) → Contains (take l.entry-index l.entries) e → IsFolderOf (entry_of e) l.fn.name → ⊥
