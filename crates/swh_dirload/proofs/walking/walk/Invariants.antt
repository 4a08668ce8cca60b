use Rattle.std.proofs.Common.{◌≡◌, ◌+◌, [], ◌∷◌, ◌++◌, length}
use Rattle.swh_dirload.specs.Found.{paths_of, items_of, ArePlaced, AreBelow, AreNamedBehind, items_under}
use Rattle.swh_dirload.specs.Walk.{root, Takes, AllFit}
use Rattle.swh_dirload.proofs.walking.walk.Given as goal

abbrev pub invariant-items : goal.invariant-items
invariant-items g l = record {
  count : length l.found.items ≡ l._turn + 1;
  placed : ArePlaced 0 l.found.items;
  below : AreBelow (length l.found.items) l.waiting.items;
  named : AreNamedBehind (l.found.items ++ l.waiting.items);
  fit : AllFit (items_of l.found.items);
  same : g.F.Folder.tells → g.F.Folder.holds l.folder ≡ g.F.Folder.holds l.fn.folder;
  takes : g.F.Folder.tells → Takes (g.F.Folder.holds l.fn.folder) (root ∷ []) (items_of l.found.items) (items_under (paths_of l.found.items) l.waiting.items);
  same_path : g.F.Folder.opened_at l.folder ≡ g.F.Folder.opened_at l.fn.folder;
  quiet : g.F.Folder.faults l.folder ≡ g.F.Folder.faults l.fn.folder;
}
