use Rattle.std.proofs.Common.{◌≡◌, ◌≤◌, length, max, List}
use Rattle.swh_pathwalk.specs.Tree.{Row}
use Rattle.swh_pathwalk.specs.Weight.{coming_weight}
use Rattle.swh_fastwrite.specs.Held.{Goes, kept}
use Rattle.swh_fastcook.specs.Files.{RowsSoFar, Leads}
use Rattle.swh_fastcook.specs.Stream.{files_text}
use Rattle.swh_fastcook.proofs.files.write_files.Given as goal

abbrev pub invariant-entries : goal.invariant-entries
invariant-entries g l = record {
  leads : Leads l.marks l.walk.levels;
  quiet : g.T.Taker.failures l.taker ≡ g.T.Taker.failures l.initial.taker;
  rows : List Row;
  so_far : RowsSoFar (g.L.Look.archive l.look).bodies l.fn.directory rows l.walk.levels;
  few : length l.held.items ≤ max (length l.initial.held.items) 65535;
  goes : Goes g.T.Taker.takes g.T.Taker.takes_front (kept l.initial.taker l.initial.held.items) (files_text l.marks rows) (kept l.taker l.held.items);
}

abbrev pub decreases-entries : goal.decreases-entries
decreases-entries g l = coming_weight (g.L.Look.archive l.look).bodies (g.L.Graph.children_of l.look) (length l.marks) l.walk.levels
