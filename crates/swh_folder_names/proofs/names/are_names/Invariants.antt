use Rattle.std.proofs.Common.{take}
use Rattle.swh_outside.specs.Folder.{AreNames}
use Rattle.swh_folder_names.specs.Names.{names_of, AreKeys}
use Rattle.swh_folder_names.proofs.names.are_names.Given as goal

-- the names so far are good, and those that are known
abbrev pub invariant-loop-item : goal.invariant-loop-item
invariant-loop-item l = record {
  good : AreNames (take l.item-index (names_of l.items));
  known : AreKeys l.known.keys (take l.item-index (names_of l.items));
}
