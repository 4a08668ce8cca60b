use Rattle.std.proofs.Common.{ap, ◌∙◌}
use Rattle.std.specs.FinMap as finite
use Rattle.swh_model.specs.Step.{added}
use Rattle.swh_model.proofs.Entries.{added-append}
use Rattle.swh_model.proofs.Results.{on_ok}
use Rattle.swh_store.specs.Stored.{Stored}
use Rattle.swh_store.specs.Entries.{bodies_in}
use Rattle.swh_store.proofs.store.Store.add_new.Goals as goal

pub returns-clause-ok : goal.returns-clause-ok
returns-clause-ok c =
    let es = c.args.entries.now in
    on_ok c.push_all.result c.push_all.ensures.ok
    (λ is. ap bodies_in is ∙ added-append finite.empty c.self.inside.held.entries.items es ∙ ap (λ (s : Stored). added s.bodies es) c.self.view_is)
