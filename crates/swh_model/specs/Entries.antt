-- The entries of an event.
use Rattle.std.specs.Prelude.{List, []}
use Rattle.swh_base.specs.declared.entry.Entry.{Entry}
use Rattle.swh_model.specs.declared.event.EventKind.{EventKind}
use Rattle.swh_model.specs.declared.event.EventKind.TheVariants.{Batch}

-- the entries of a batch, and none of another event
abbrev pub entries_of : EventKind → List Entry
entries_of (Batch entries) = entries
entries_of _ = []
