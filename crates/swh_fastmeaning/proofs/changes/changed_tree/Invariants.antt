use Rattle.std.proofs.Common.{◌≡◌, [], drop}
use Rattle.swh_trees.specs.Grove.{map_of, StandsFor, Keeps}
use Rattle.swh_fastmeaning.specs.Commands.{Changed, all_changed}
use Rattle.swh_fastmeaning.specs.Changes.{HoldsContents, changed_of}
use Rattle.swh_fastmeaning.proofs.changes.changed_tree.Given as goal

abbrev pub invariant-loop-change : goal.invariant-loop-change
invariant-loop-change g l =
    (c : Changed)
    × ((all_changed g.N.Namer.id_of l.aims l.changes (changed_of (map_of l.initial.trees l.initial.here) []) ≡ all_changed g.N.Namer.id_of l.aims (drop l.change-index l.changes) c)
    × StandsFor l.trees l.here c.tree × HoldsContents c.contents l.contents.objects.items l.contents.over × Keeps l.initial.trees l.trees)
