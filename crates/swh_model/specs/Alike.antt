-- Events without the children of their entries, which their bodies determine.
use Rattle.std.specs.Prelude.{◌≡◌, List, [], map}
use Rattle.swh_base.specs.declared.entry.Entry.{Entry}
use Rattle.swh_model.specs.declared.event.Event.{Event}
use Rattle.swh_model.specs.declared.event.EventKind.{EventKind}
use Rattle.swh_model.specs.declared.event.EventKind.TheVariants.{Batch}

-- an entry without its children
abbrev pub without_children : Entry → Entry
without_children e = record e { kids = [] }

-- what happened, its entries without their children
abbrev pub bare_kind : EventKind → EventKind
bare_kind (Batch entries) = Batch (map without_children entries)
bare_kind what = what

abbrev pub bare_event : Event → Event
bare_event e = record e { what = bare_kind e.what }

-- The histories are the same up to the children.
abbrev pub AreAlike : List Event → List Event → Type 0
AreAlike g h = map bare_event g ≡ map bare_event h
