use Rattle.std.proofs.Common.{◌≡◌, ◌≤◌, ◌<◌, ◌++◌, ◌-◌, ℕ, true, false, length, get_or}
use Rattle.swh_entries.specs.declared.entry.Entry.{Entry}
use Rattle.swh_entries.specs.Keys.{texts, entry_key, is_before}
use Rattle.swh_forest.proofs.node.above_by_halves.Given as goal

abbrev pub invariant-halves : goal.invariant-halves
invariant-halves l = record {
  within : l.low ≤ l.high;
  inside : l.high ≤ length l.node.items;
  below : (k : ℕ) (d : Entry) → k < l.low → is_before (l.name ++ l.end) (entry_key (texts l.names) (get_or l.node.items k d)) ≡ false;
  over : (k : ℕ) (d : Entry) → l.high ≤ k → k < length l.node.items → is_before (l.name ++ l.end) (entry_key (texts l.names) (get_or l.node.items k d)) ≡ true;
}

abbrev pub decreases-halves : goal.decreases-halves
decreases-halves l = l.high - l.low
