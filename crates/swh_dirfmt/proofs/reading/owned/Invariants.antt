use Rattle.std.proofs.Common.{◌≡◌, take}
use Rattle.swh_dirfmt.specs.Entries.{entry_views, entries_in_body}
use Rattle.swh_dirfmt.proofs.reading.owned.Given as goal

abbrev pub invariant-loop-entry : goal.invariant-loop-entry
invariant-loop-entry l = entry_views l.list.items ≡ entries_in_body (take l.entry-index l.spelled)
