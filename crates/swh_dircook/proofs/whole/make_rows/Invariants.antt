use Rattle.std.proofs.Common.{◌≡◌, length, List}
use Rattle.swh_graph.specs.Path.{directory_name}
use Rattle.swh_pathwalk.specs.Tree.{Row, IsPathWalk}
use Rattle.swh_pathwalk.specs.Weight.{coming_weight, LeadInto}
use Rattle.swh_pathwalk.specs.Held.{IsAt}
use Rattle.swh_dircook.specs.Made.{all_made, yarded, after_made}
use Rattle.swh_dircook.proofs.whole.make_rows.Given as goal

abbrev pub invariant-entries : goal.invariant-entries
invariant-entries g l = record {
  leads : LeadInto l.order l.walk.levels;
  quiet : g.Y.Sink.faults l.yard ≡ g.Y.Sink.faults l.initial.yard;
  made :
      (rows : List Row) → IsPathWalk (g.L.Look.archive l.look).bodies (directory_name l.fn.directory) rows
      → (given : List Row) × IsAt (g.L.Look.archive l.look).bodies rows given l.walk.levels
      × (g.Y.Sink.tells → yarded (g.Y.Sink.begun l.yard) (g.Y.Sink.taken l.yard) ≡ after_made (yarded (g.Y.Sink.begun l.initial.yard) (g.Y.Sink.taken l.initial.yard)) (all_made (g.L.Look.archive l.look).bodies l.out given));
}

abbrev pub decreases-entries : goal.decreases-entries
decreases-entries g l = coming_weight (g.L.Look.archive l.look).bodies (g.L.Graph.children_of l.look) (length l.order) l.walk.levels
