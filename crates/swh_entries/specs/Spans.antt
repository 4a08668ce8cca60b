-- Entries in pieces, under forks.
use Rattle.std.specs.Prelude.{◌≡◌, ℕ, suc, ◌+◌, Bool, true, ◌&&◌, List, ◌++◌, length, ◌==◌}
use Rattle.swh_entries.specs.declared.entry.Entry.{Entry}
use Rattle.swh_entries.specs.declared.spans.Span.{Span}
use Rattle.swh_entries.specs.declared.spans.Span.TheVariants.{Piece, Fork'}

-- the entries of all pieces, in their order
abbrev pub items_of : Span → List Entry
items_of (Piece v) = v.items
items_of (Fork' p left q right len depth first) = items_of left ++ items_of right

-- how many pieces and forks there are
abbrev pub weight : Span → ℕ
weight (Piece v) = 1
weight (Fork' p left q right len depth first) = suc (weight left + weight right)

-- each fork has the number of the entries under it
abbrev pub is_counted : Span → Bool
is_counted (Piece v) = true
is_counted (Fork' p left q right len depth first) = len == length (items_of left ++ items_of right) && is_counted left && is_counted right

abbrev pub IsCounted : Span → Type 0
IsCounted s = is_counted s ≡ true
