use Rattle.std.proofs.Common.{◌≡◌, ◌≤◌, ◌+◌, ◌-◌}
use Rattle.swh_batchread.specs.Batch.{input_limit}
use Rattle.swh_batchread.specs.RefSteps.{HasLines}
use Rattle.swh_batchread.proofs.refs.read_lines.Given as goal

-- the text up to the window's place has been read, line by line
abbrev pub invariant-lines : goal.invariant-lines
invariant-lines g l = record {
  place : l.window.place ≤ input_limit;
  first : 1 ≤ l.number;
  last : l.number ≤ l.window.place + 1;
  has : HasLines g.S.Source.tells (g.S.Source.left l.fn.source) l.window (g.S.Source.left l.source) l.number l.refs;
  same_path : g.S.Source.path l.source ≡ g.S.Source.path l.fn.source;
  quiet : g.S.Source.faults l.source ≡ g.S.Source.faults l.fn.source;
}

abbrev pub decreases-lines : goal.decreases-lines
decreases-lines g l = input_limit - l.window.place
