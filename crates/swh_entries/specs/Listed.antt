-- What contracts see of a folder's entries, and what they cost in memory.
use Rattle.std.specs.Prelude.{ℕ, ◌+◌, Bool, List, length, min, if◌then◌else◌}
use Rattle.std.specs.List.{sum_by}
use Rattle.swh_entries.specs.declared.entry.Entry.{Entry}

-- the entries in their order
pub record Row : Type 0 where
  pub items : List Entry

-- The entries in their order, how many of them were made for it, others being shared, and whether a copy shares them all.
pub record Listed : Type 0 where
  pub items : List Entry
  pub cost : ℕ
  pub shares : Bool

-- what a copy costs
abbrev pub cost_again : Listed → ℕ
cost_again l = if l.shares then 0 else length l.items

-- what the list costs after a change made these entries of it: no more than all of them
abbrev pub cost_changed : Listed → List Entry → ℕ
cost_changed l items = if l.shares then min (l.cost + 32) (length items) else length items

-- what lists cost together
abbrev pub cost_of : List Listed → ℕ
cost_of lists = sum_by (λ l. l.cost) lists
