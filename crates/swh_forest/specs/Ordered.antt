-- Entries in the order of git's directories.
use Rattle.std.specs.Prelude.{◌≡◌, ℕ, ◌<◌, ◌≤◌, true, false, List, length, slice_index_or}
use Rattle.swh_entries.specs.declared.entry.Entry.{Entry}
use Rattle.swh_entries.specs.Keys.{is_before, entry_key}

-- Each entry comes before those behind it.
abbrev pub AreOrdered : List (List ℕ) → List Entry → Type 0
AreOrdered names es = (i j : ℕ) (d : Entry) → i < j → j < length es → is_before (entry_key names (slice_index_or es i d)) (entry_key names (slice_index_or es j d)) ≡ true

-- The key comes before the entries from this place on, and before no other.
pub record IsAbove (names : List (List ℕ)) (key : List ℕ) (es : List Entry) (place : ℕ) : Type 0 where
  pub within : place ≤ length es
  pub low : (k : ℕ) (d : Entry) → k < place → is_before key (entry_key names (slice_index_or es k d)) ≡ false
  pub high : (k : ℕ) (d : Entry) → place ≤ k → k < length es → is_before key (entry_key names (slice_index_or es k d)) ≡ true
