use Rattle.std.proofs.Common.{◌≡◌, ◌≤◌, ◌^◌, ◌-◌, []}
use Rattle.swh_fastrows.specs.Places.{Took}
use Rattle.swh_fastrows.proofs.row_source.RowReader.look.Given as goal

-- only comments were taken
abbrev pub invariant-comments : goal.invariant-comments
invariant-comments g l = record {
  took : g.S.Source.tells → Took l.fn.self l.self [];
  onward : l.fn.self.at ≤ l.self.at;
  same_path : l.self.path ≡ l.fn.self.path;
  quiet : l.self.faults ≡ l.fn.self.faults;
}

abbrev pub decreases-comments : goal.decreases-comments
decreases-comments g l = 2 ^ 34 - l.self.at
