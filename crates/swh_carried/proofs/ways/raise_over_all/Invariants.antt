use Rattle.std.proofs.Common.{take}
use Rattle.swh_dirfmt.specs.Entries.{entries_in_body}
use Rattle.swh_carried.specs.Ways.{RaisesOverAll}
use Rattle.swh_carried.proofs.ways.raise_over_all.Given as goal

abbrev pub invariant-loop-entry : goal.invariant-loop-entry
invariant-loop-entry l = RaisesOverAll l.way (entries_in_body (take l.entry-index l.entries)) l.initial.ways.entries l.ways.entries
