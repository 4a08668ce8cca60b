use Rattle.std.specs.List.{AllByRecursion}
use Rattle.swh_dedup.specs.Making.{made, names_of_made}
use Rattle.swh_dirmade.specs.Making.{IsHeld}
use Rattle.std.proofs.Common.{◌≡◌, ◌≤◌, length, take}
use Rattle.swh_dirload.specs.declared.limits.TheConstants.{FILES_LIMIT}
use Rattle.swh_dirload.specs.Found.{items_of}
use Rattle.swh_dirload.specs.Reading.{ReadsAll}
use Rattle.swh_dirload.proofs.reading.read_files.Given as goal

abbrev pub invariant-files : goal.invariant-files
invariant-files g l = record {
  count : length l.places.items ≡ l.number;
  within : l.total ≤ FILES_LIMIT;
  held : AllByRecursion (IsHeld (names_of_made g.N.Namer.id_of (made l.given))) l.places.items;
  same : g.F.Folder.tells → g.F.Folder.holds l.folder ≡ g.F.Folder.holds l.fn.folder;
  reads : g.F.Folder.tells → ReadsAll g.N.Namer.id_of (g.F.Folder.holds l.fn.folder) 0 l.fn.given (items_of (take l.number l.found)) l.places.items l.total l.given;
  same_path : g.F.Folder.opened_at l.folder ≡ g.F.Folder.opened_at l.fn.folder;
  quiet : g.F.Folder.faults l.folder ≡ g.F.Folder.faults l.fn.folder;
}
