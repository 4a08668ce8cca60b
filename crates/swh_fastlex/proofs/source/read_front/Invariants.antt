use Rattle.std.proofs.Common.{◌≡◌, ◌≤◌, ◌+◌, ◌-◌, ◌++◌, length, vec_len}
use Rattle.swh_fastlex.proofs.source.read_front.Given as goal

abbrev pub invariant-rounds : goal.invariant-rounds
invariant-rounds g l = record {
  so_far : g.S.Source.tells → g.S.Source.left l.fn.source ≡ l.bytes.items ++ g.S.Source.left l.source;
  gave : g.S.Source.tells → g.S.Source.given l.source ≡ g.S.Source.given l.fn.source ++ l.bytes.items;
  same_path : g.S.Source.path l.source ≡ g.S.Source.path l.fn.source;
  quiet : g.S.Source.faults l.source ≡ g.S.Source.faults l.fn.source;
  room : vec_len l.window ≡ 65536;
  within : length l.bytes.items ≤ l.limit + 65536;
}

abbrev pub decreases-rounds : goal.decreases-rounds
decreases-rounds g l = l.limit + 1 - length l.bytes.items
