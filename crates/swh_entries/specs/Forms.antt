-- How a folder's entries are kept.
use Rattle.std.specs.Prelude.{List, Bool, true, false}
use Rattle.swh_entries.specs.declared.entry.Entry.{Entry}
use Rattle.swh_entries.specs.declared.packed.Form.{Form}
use Rattle.swh_entries.specs.declared.packed.Form.TheVariants.{Flat, Loose, Cut}

-- the entries, in each form
abbrev pub items_in : Form → List Entry
items_in (Flat f) = f.items
items_in (Loose v) = v.items
items_in (Cut s) = s.items

-- whether they are in pieces, which lists share
abbrev pub is_cut : Form → Bool
is_cut (Flat f) = false
is_cut (Loose v) = false
is_cut (Cut s) = true
