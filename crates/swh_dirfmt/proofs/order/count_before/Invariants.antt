use Rattle.std.proofs.Common.{◌≡◌, ◌-◌, ◌≤◌, ◌++◌, length, true, false}
use Rattle.std.specs.List.{AllWithin}
use Rattle.swh_base.specs.Directory.{suffix_of}
use Rattle.swh_dirfmt.specs.Entries.{comes_before}
use Rattle.swh_dirfmt.proofs.order.count_before.Given as goal

abbrev pub invariant-halves : goal.invariant-halves
invariant-halves l = record {
  ordered : l.low ≤ l.high;
  within : l.high ≤ length l.entries;
  before : AllWithin (λ e. comes_before (l.name ++ suffix_of l.mode) e ≡ true) l.entries 0 l.low;
  others : AllWithin (λ e. comes_before (l.name ++ suffix_of l.mode) e ≡ false) l.entries l.high (length l.entries);
}

abbrev pub decreases-halves : goal.decreases-halves
decreases-halves l = l.high - l.low
