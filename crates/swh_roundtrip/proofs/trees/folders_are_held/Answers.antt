use Rattle.swh_roundtrip.proofs.HeldFolders.{folder_held}
use Rattle.swh_roundtrip.proofs.TreeForests.{walk-map}
use Rattle.swh_roundtrip.proofs.trees.folders_are_held.Goals as goal

pub returns : goal.returns
returns c id bodies name tree object named kind is full made =
    let h = folder_held bodies id named tree (record { name = name; kind = kind; top = is.top; under = is.under; full = full }) _ (walk-map bodies name tree is full) object made in
    record { name = h.0; kind = h.1; held = h.2 }
