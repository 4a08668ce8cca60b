use Rattle.std.proofs.Common.{◌≡◌, ◌≤◌, ◌+◌, ◌-◌, ◌++◌, Contains, length}
use Rattle.swh_fastlex.specs.Line.{unread}
use Rattle.swh_fastrows.specs.Held.{before_limit}
use Rattle.swh_fastrows.proofs.hold.hold_line.Given as goal

-- the bytes of the line so far have no LF, and what is to be read goes on from them
abbrev pub invariant-pieces : goal.invariant-pieces
invariant-pieces g l = record {
  no_feed : Contains l.line.items 10 → ⊥;
  text : g.S.Source.tells → unread l.fn.window (g.S.Source.left l.fn.source) ≡ l.line.items ++ unread l.window (g.S.Source.left l.source);
  counted : l.window.place ≡ l.fn.window.place + length l.line.items;
  within : length l.line.items ≤ 1048577;
  few : length l.line.items + length l.window.bytes ≤ before_limit;
  same_path : g.S.Source.path l.source ≡ g.S.Source.path l.fn.source;
  quiet : g.S.Source.faults l.source ≡ g.S.Source.faults l.fn.source;
}

abbrev pub decreases-pieces : goal.decreases-pieces
decreases-pieces g l = 1048577 - length l.line.items
