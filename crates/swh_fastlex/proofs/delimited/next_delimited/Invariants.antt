use Rattle.std.proofs.Common.{◌≡◌, ◌≤◌, ◌+◌, ◌-◌, ◌++◌, length}
use Rattle.swh_fastlex.specs.Delimited.{AreLines}
use Rattle.swh_fastlex.specs.Line.{unread}
use Rattle.swh_fastlex.proofs.delimited.next_delimited.Given as goal

-- the lines so far are not the delimiter's, and what is to be read goes on after them
abbrev pub invariant-lines : goal.invariant-lines
invariant-lines g l = record {
  lines : AreLines l.word l.bytes.items;
  text : g.S.Source.tells → unread l.fn.window (g.S.Source.left l.fn.source) ≡ l.bytes.items ++ unread l.window (g.S.Source.left l.source);
  counted : l.window.place ≡ l.fn.window.place + length l.bytes.items;
  within : length l.bytes.items ≤ l.limit;
  same_path : g.S.Source.path l.source ≡ g.S.Source.path l.fn.source;
  quiet : g.S.Source.faults l.source ≡ g.S.Source.faults l.fn.source;
}

abbrev pub decreases-lines : goal.decreases-lines
decreases-lines g l = l.limit - length l.bytes.items
