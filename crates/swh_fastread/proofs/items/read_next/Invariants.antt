use Rattle.std.proofs.Common.{◌≡◌, ◌≤◌, ◌^◌, ◌-◌}
use Rattle.swh_fastread.specs.Steps.{Passed}
use Rattle.swh_fastread.proofs.items.read_next.Given as goal

-- only items that are no commands were passed
abbrev pub invariant-items : goal.invariant-items
invariant-items g l = record {
  passed : g.S.Source.tells → Passed l.fn.rows l.rows l.fn.promised l.wants_done;
  onward : l.fn.rows.at ≤ l.rows.at;
  same_path : l.rows.path ≡ l.fn.rows.path;
  quiet : l.rows.faults ≡ l.fn.rows.faults;
}

abbrev pub decreases-items : goal.decreases-items
decreases-items g l = 2 ^ 34 - l.rows.at
