use Rattle.std.proofs.Common.{take, subst}
use Rattle.swh_model.specs.Archive.{IsGraphOf}
use Rattle.swh_store.specs.Stored.{children_in}
use Rattle.swh_store.specs.Front.{Front}
use Rattle.swh_store.proofs.IndexLemmas.{graph_is}
use Rattle.swh_store.proofs.Fronts.{shown-good, shown-new}
use Rattle.swh_store.proofs.preloaded.Preloaded.is_graph.Goals as goal

pub returns : goal.returns
returns c =
    let inside = c.self.inside in
    let good = shown-good inside.held inside.fresh inside.shown c.self.invariant in
    let new = shown-new inside.held inside.fresh inside.shown c.self.invariant in
    subst (λ (f : Front). IsGraphOf f.shown.bodies (children_in f.shown)) c.self.view_is (graph_is (take inside.shown inside.held.entries.items) good new)
