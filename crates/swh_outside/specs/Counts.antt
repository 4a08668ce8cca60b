-- Faults counted per path.
use Rattle.std.specs.Prelude.{◌<◌, ℕ, Bool, List, length, string_bytes}
use Rattle.std.specs.List.{position_or_len}
use Rattle.std.specs.Str.{bytes_eq}
use Rattle.swh_outside.specs.Firsts.{first_or}
use Rattle.swh_outside.specs.declared.path_counts.PathCount.{PathCount}
use Rattle.swh_outside.specs.declared.path_counts.PathCounts.{PathCounts}

-- it is the count of this path
abbrev pub is_of : List ℕ → PathCount → Bool
is_of path count = bytes_eq (string_bytes count.path) path

-- the count of the first entry of a path, or that of all paths without one
abbrev pub count_in : List PathCount → ℕ → List ℕ → ℕ
count_in counts others path = first_or (is_of path) (λ count. count.faults) others counts

-- how many faults are counted at a path
abbrev pub count_at : PathCounts → List ℕ → ℕ
count_at counts = count_in counts.counts.items counts.others

-- the path has a count of its own
abbrev pub is_counted : PathCounts → List ℕ → Type 0
is_counted counts path = position_or_len (is_of path) counts.counts.items < length counts.counts.items
