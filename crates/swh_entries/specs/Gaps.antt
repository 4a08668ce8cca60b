-- A place in a folder's entries, and what stands on both sides of it.
use Rattle.std.specs.Prelude.{ℕ, zero, suc, List, Option, None}
use Rattle.std.specs.List.{slice_get}
use Rattle.swh_entries.specs.declared.entry.Entry.{Entry}
use Rattle.swh_entries.specs.declared.entry.Gap.{Gap}

-- the entry before the place, where there is one
abbrev pub entry_before : List Entry → ℕ → Option Entry
entry_before es zero = None
entry_before es (suc k) = slice_get es k

-- the place, with the entry before it and the one at it
abbrev pub gap_at : List Entry → ℕ → Gap
gap_at es k = record { place = k; before = entry_before es k; at = slice_get es k }
