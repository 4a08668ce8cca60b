use Rattle.std.proofs.Common.{◌≡◌, ◌<◌, length, List}
use Rattle.swh_graph.specs.Path.{directory_name}
use Rattle.swh_pathwalk.specs.Tree.{Row, IsPathWalk}
use Rattle.swh_pathwalk.specs.Weight.{coming_weight, LeadInto}
use Rattle.swh_pathwalk.specs.Held.{IsAt}
use Rattle.swh_fastwrite.specs.Held.{Goes, kept}
use Rattle.swh_dircook.specs.Listing.{listing_text}
use Rattle.swh_dircook.proofs.whole.write_listing.Given as goal

abbrev pub invariant-entries : goal.invariant-entries
invariant-entries g l = record {
  leads : LeadInto l.order l.walk.levels;
  quiet : g.T.Taker.failures l.taker ≡ g.T.Taker.failures l.initial.taker;
  few : length l.initial.held.items < 65536 → length l.held.items < 65536;
  written :
      (rows : List Row) → IsPathWalk (g.L.Look.archive l.look).bodies (directory_name l.fn.directory) rows
      → (given : List Row) × IsAt (g.L.Look.archive l.look).bodies rows given l.walk.levels
      × Goes g.T.Taker.takes g.T.Taker.takes_front (kept l.initial.taker l.initial.held.items) (listing_text given) (kept l.taker l.held.items);
}

abbrev pub decreases-entries : goal.decreases-entries
decreases-entries g l = coming_weight (g.L.Look.archive l.look).bodies (g.L.Graph.children_of l.look) (length l.order) l.walk.levels
