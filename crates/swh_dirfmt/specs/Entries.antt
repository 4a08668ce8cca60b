-- Entries without where they lie: in memory of their own, or in a body.
use Rattle.std.specs.Prelude.{ℕ, Bool, List, map}
use Rattle.std.specs.Ordering.{nat_cmp, is_lt}
use Rattle.std.specs.Cmp.Lexicographic.{slice_cmp}
use Rattle.swh_base.specs.Directory.{DirectoryEntry, sort_key}
use Rattle.swh_dirfmt.specs.declared.entry.DirEntry.{DirEntry}
use Rattle.swh_dirfmt.specs.declared.entry.SpelledEntry.{SpelledEntry}

-- an entry of its own, as the grammar's
abbrev pub entry_view : DirEntry → DirectoryEntry
entry_view e = record { mode = e.mode; name = e.name; id = e.id }

-- entries of their own, as the grammar's
abbrev pub entry_views : List DirEntry → List DirectoryEntry
entry_views es = map entry_view es

-- an entry that stands in a body, as the grammar's
abbrev pub entry_of : SpelledEntry → DirectoryEntry
entry_of e = record { mode = e.mode; name = e.name.now; id = e.id.now }

-- entries that stand in a body, as the grammar's
abbrev pub entries_in_body : List SpelledEntry → List DirectoryEntry
entries_in_body es = map entry_of es

-- what an entry that stands in a body is compared by
abbrev pub key_of : SpelledEntry → List ℕ
key_of e = sort_key (entry_of e)

-- the entry comes before this key
abbrev pub comes_before : List ℕ → SpelledEntry → Bool
comes_before key e = is_lt (slice_cmp nat_cmp (key_of e) key)
