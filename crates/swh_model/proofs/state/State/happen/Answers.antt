use Rattle.std.proofs.Common.{◌≡◌, List, sym, ap, ◌∙◌}
use Rattle.std.specs.FinMap.{empty}
use Rattle.swh_base.specs.declared.entry.Entry.{Entry}
use Rattle.swh_model.specs.declared.event.EventKind.{EventKind}
use Rattle.swh_model.specs.declared.event.EventKind.TheVariants.{Batch}
use Rattle.swh_model.specs.Archive.{Archive}
use Rattle.swh_model.specs.Step.{added, after_kind}
use Rattle.swh_model.specs.State.{bodies_in, origins_in}
use Rattle.swh_model.proofs.Entries.{added-append}
use Rattle.swh_model.proofs.Results.{on_ok}
use Rattle.swh_model.proofs.state.State.happen.Goals as goal

pub returns-in-Batch : goal.returns-in-Batch
returns-in-Batch c =
    let old = c.self.inside.entries.items in
    let by = c.args.event.now.by in
    let batch = c.as_slice.result.now in
    on_ok c.add_in.result c.add_in.ensures.added
    (λ is.
    let bodies : bodies_in c.add_in.new.entries.items ≡ added (bodies_in old) batch = ap bodies_in is ∙ added-append empty old batch in
    let made : ◌≡◌ {A = Archive} (record { bodies = bodies_in c.add_in.new.entries.items; origins = origins_in c.self.inside.origins.items })
    (after_kind (record { bodies = bodies_in old; origins = origins_in c.self.inside.origins.items }) by (Batch batch)) = λ i. record { bodies = bodies i; origins = origins_in c.self.inside.origins.items } in
    made ∙ ap (λ (a : Archive). after_kind a by (Batch batch)) c.self.view_is
    ∙ ap (λ (es : List Entry). after_kind c.args.self.now by (Batch es)) c.as_slice.ensures
    ∙ ap (λ (what : EventKind). after_kind c.args.self.now by what) (sym c.in-Batch.is))
