-- Numbered folders in order, and what is put into them.
use Rattle.std.proofs.Common.{◌≡◌, ℕ, ◌<◌, List, length, get_or, sym, subst}
use Rattle.std.specs.Global.{Vec}
use Rattle.swh_entries.specs.declared.entry.Entry.{Entry}
use Rattle.swh_entries.specs.Listed.{Listed}
use Rattle.swh_forest.specs.Arena.{tree_at, forest_of}
use Rattle.swh_entries.specs.Keys.{texts}
use Rattle.swh_forest.specs.Forest.{Forest, without}
use Rattle.swh_forest.specs.Sound.{IsSound}
use Rattle.swh_forest.specs.Roots.{IsGood}
use Rattle.swh_forest.specs.Ordered.{AreOrdered}
use Rattle.swh_forest.proofs.Arenas.{tree-node}
use Rattle.swh_forest.proofs.Sounds.{without-sound}
use Rattle.swh_forest.proofs.Orders.{ordered}

pub node-sound : (names : List (Vec ℕ)) (nodes : List Listed) (i : ℕ) (v : Listed) → IsGood names nodes → i < length nodes → v ≡ get_or nodes i v → IsSound (forest_of (texts names) (tree_at names nodes) v.items)
node-sound names nodes i v good lt is = subst IsSound (tree-node names nodes i v good.arena lt is) (good.sound i lt)

pub node-ordered : (names : List (Vec ℕ)) (nodes : List Listed) (i : ℕ) (v : Listed) → IsGood names nodes → i < length nodes → v ≡ get_or nodes i v → AreOrdered (texts names) v.items
node-ordered names nodes i v good lt is = ordered (texts names) (tree_at names nodes) v.items (node-sound names nodes i v good lt is)

-- what is left of a sound folder is ordered
pub left-ordered : (names : List (List ℕ)) (at : ℕ → Forest) (es : List Entry) (c : List ℕ) (f : Forest) → IsSound f → forest_of names at es ≡ without c f → AreOrdered names es
left-ordered names at es c f s e = ordered names at es (subst IsSound (sym e) (without-sound c f s))
