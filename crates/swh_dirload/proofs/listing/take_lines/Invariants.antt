use Rattle.std.specs.List.{AllByRecursion}
use Rattle.swh_base.specs.declared.name.Name.{Name}
use Rattle.swh_dirmade.specs.Making.{IsHeld}
use Rattle.std.proofs.Common.{List, ◌≡◌, ◌+◌, ◌-◌, ◌≤◌, length}
use Rattle.swh_fastlex.specs.Line.{unread}
use Rattle.swh_dirload.specs.Index.{IsIndex}
use Rattle.swh_dirmade.specs.Spots.{Places, IsTable, Stand}
use Rattle.swh_dirload.specs.Lines.{GoesOn}
use Rattle.swh_dirload.proofs.TakenLines.{Goes}
use Rattle.swh_dirload.proofs.listing.take_lines.Given as goal

-- the lines so far are taken, and the rest is to be read
abbrev pub invariant-lines : goal.invariant-lines
invariant-lines g l = record {
  table : IsTable l.spots.items;
  index : IsIndex l.spots.items l.numbers.entries;
  count : length l.places.items ≡ length l.spots.items;
  within : l.window.place ≤ 4294967296;
  some : 1 ≤ l.line;
  few : l.line ≤ l.window.place + 1;
  goes : g.S.Source.tells → (before : Places) → Stand l.fn.spots.items l.fn.places.items before → Goes before (g.S.Source.left l.fn.source) l.window.place (unread l.window (g.S.Source.left l.source)) l.line l.spots.items l.places.items;
  held : (names : List Name) → AllByRecursion (IsHeld names) l.fn.places.items → AllByRecursion (IsHeld names) l.places.items;
  onward : GoesOn l.fn.spots.items l.fn.places.items l.spots.items l.places.items;
  same_path : g.S.Source.path l.source ≡ g.S.Source.path l.fn.source;
  quiet : g.S.Source.faults l.source ≡ g.S.Source.faults l.fn.source;
}

abbrev pub decreases-lines : goal.decreases-lines
decreases-lines g l = 4294967296 - l.window.place
