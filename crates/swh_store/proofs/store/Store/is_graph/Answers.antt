use Rattle.std.proofs.Common.{subst}
use Rattle.swh_model.specs.Archive.{IsGraphOf}
use Rattle.swh_store.specs.Stored.{Stored, children_in}
use Rattle.swh_store.proofs.IndexLemmas.{graph_is}
use Rattle.swh_store.proofs.store.Store.is_graph.Goals as goal

pub returns : goal.returns
returns c =
    subst (λ (s : Stored). IsGraphOf s.bodies (children_in s)) c.self.view_is (graph_is c.self.inside.held.entries.items c.self.invariant.good c.self.invariant.new)
