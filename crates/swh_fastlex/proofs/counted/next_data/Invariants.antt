use Rattle.std.proofs.Common.{◌≡◌, ◌≤◌, ◌+◌, ◌-◌, ◌++◌, length}
use Rattle.swh_fastlex.specs.Line.{unread}
use Rattle.swh_fastlex.proofs.counted.next_data.Given as goal

-- what is to be read goes on from the bytes so far
abbrev pub invariant-pieces : goal.invariant-pieces
invariant-pieces g l = record {
  text : g.S.Source.tells → unread l.fn.window (g.S.Source.left l.fn.source) ≡ l.bytes.items ++ unread l.window (g.S.Source.left l.source);
  counted : l.window.place ≡ l.fn.window.place + length l.bytes.items;
  within : length l.bytes.items ≤ l.count;
  same_path : g.S.Source.path l.source ≡ g.S.Source.path l.fn.source;
  quiet : g.S.Source.faults l.source ≡ g.S.Source.faults l.fn.source;
}

abbrev pub decreases-pieces : goal.decreases-pieces
decreases-pieces g l = l.count - length l.bytes.items
