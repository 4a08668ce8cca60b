use Rattle.std.proofs.Common.{length}
use Rattle.swh_graph.proofs.Nameds.{IsSearched}
use Rattle.swh_graph.proofs.named.find_entry.Given as goal

abbrev pub invariant-entries : goal.invariant-entries
invariant-entries l = IsSearched l.body l.name l.rest

abbrev pub decreases-entries : goal.decreases-entries
decreases-entries l = length l.rest
