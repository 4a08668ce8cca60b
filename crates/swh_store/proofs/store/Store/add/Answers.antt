use Rattle.std.proofs.Common.{IfErr, ap, ◌∙◌, sym, subst}
use Rattle.std.specs.FinMap as finite
use Rattle.swh_model.specs.Step.{added}
use Rattle.swh_model.specs.Judge.{not_held, Collides}
use Rattle.swh_model.proofs.Entries.{added-append}
use Rattle.swh_model.proofs.Results.{on_ok}
use Rattle.swh_store.specs.Stored.{Stored}
use Rattle.swh_store.specs.Adding.{IsStoreFault}
use Rattle.swh_store.specs.Entries.{bodies_in}
use Rattle.swh_store.proofs.store.Store.add.Goals as goal

pub returns-clause-ok : goal.returns-clause-ok
returns-clause-ok c =
    let old = c.self.inside.held.entries.items in
    let es = c.args.entries.now in
    on_ok c.add_batch.result c.add_batch.ensures.ok
    (λ is. ap bodies_in is ∙ added-append finite.empty old (not_held (bodies_in old) es) ∙ ap (λ (s : Stored). added s.bodies (not_held s.bodies es)) c.self.view_is)

pub returns-clause-distinct : goal.returns-clause-distinct
returns-clause-distinct c =
    on_ok c.add_batch.result c.add_batch.ensures.distinct
    (λ none name two. none name (subst (λ (s : Stored). Collides s.bodies c.args.entries.now name) (sym c.self.view_is) two))

pub returns-clause-fault : goal.returns-clause-fault
returns-clause-fault c =
    subst (λ (s : Stored). IfErr c.add_batch.result (IsStoreFault s.bodies c.args.entries.now)) c.self.view_is c.add_batch.ensures.fault
