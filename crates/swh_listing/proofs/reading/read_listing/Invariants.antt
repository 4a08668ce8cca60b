use Rattle.std.proofs.Common.{◌≡◌, ◌-◌, ◌≤◌, length}
use Rattle.swh_fastlex.specs.Line.{unread}
use Rattle.swh_listing.specs.Listing.{Reads}
use Rattle.swh_listing.proofs.reading.read_listing.Given as goal

-- what was read so far are these lines, and the rest is to be read
abbrev pub invariant-lines : goal.invariant-lines
invariant-lines g l = record {
  reads : g.S.Source.tells → Reads 0 (g.S.Source.left l.fn.source) l.lines.items l.window.place (unread l.window (g.S.Source.left l.source));
  within : l.window.place ≤ 4294967296;
  count : length l.lines.items ≤ l.window.place;
  same_path : g.S.Source.path l.source ≡ g.S.Source.path l.fn.source;
  quiet : g.S.Source.faults l.source ≡ g.S.Source.faults l.fn.source;
}

abbrev pub decreases-lines : goal.decreases-lines
decreases-lines g l = 4294967296 - l.window.place
