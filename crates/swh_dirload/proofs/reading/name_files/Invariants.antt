use Rattle.std.specs.List.{AllByRecursion}
use Rattle.swh_dedup.specs.Making.{made, names_of_made}
use Rattle.swh_dirmade.specs.Making.{IsHeld}
use Rattle.std.proofs.Common.{◌≡◌, ◌≤◌, List, [], length, take}
use Rattle.swh_base.specs.declared.entry.Entry.{Entry}
use Rattle.swh_dirload.specs.declared.limits.TheConstants.{FILES_LIMIT}
use Rattle.swh_dirload.specs.Found.{items_of}
use Rattle.swh_dirload.specs.Reading.{ReadsAll}
use Rattle.swh_dirload.proofs.reading.name_files.Given as goal

abbrev pub invariant-files : goal.invariant-files
invariant-files g l = record {
  count : length l.places.items ≡ l.number;
  within : l.total ≤ FILES_LIMIT;
  held : (contents : List Entry) × AllByRecursion (IsHeld (names_of_made g.N.Namer.id_of (made contents))) l.places.items;
  same : g.F.Folder.tells → g.F.Folder.holds l.folder ≡ g.F.Folder.holds l.fn.folder;
  reads : g.F.Folder.tells → (contents : List Entry) × ReadsAll g.N.Namer.id_of (g.F.Folder.holds l.fn.folder) 0 [] (items_of (take l.number l.found)) l.places.items l.total contents;
  same_path : g.F.Folder.opened_at l.folder ≡ g.F.Folder.opened_at l.fn.folder;
  quiet : g.F.Folder.faults l.folder ≡ g.F.Folder.faults l.fn.folder;
}
