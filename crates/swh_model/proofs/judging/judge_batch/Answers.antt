use Rattle.std.proofs.Common.{◌≡◌, ◌+◌, List, length, ap, ◌∙◌, subst, arith}
use Rattle.swh_base.specs.declared.name.Name.{Name}
use Rattle.swh_base.specs.declared.entry.Entry.{Entry}
use Rattle.swh_model.specs.declared.event.EventKind.TheVariants.{Batch}
use Rattle.swh_model.specs.declared.event.Outcome.TheVariants.{Added}
use Rattle.swh_model.specs.Archive.{Archive}
use Rattle.swh_model.specs.Step.{replay}
use Rattle.swh_model.specs.Judge.{not_held, FilePasses, Collides}
use Rattle.swh_model.specs.Judged.{NonePasses}
use Rattle.swh_model.proofs.Refusals.{few_fresh, batch_passes}
use Rattle.swh_model.proofs.judging.judge_batch.Goals as goal

pub overflow_cast-new : goal.overflow_cast-new
overflow_cast-new c =
    let few = few_fresh c.args.state.now.bodies c.args.entries.now c.in_ok-fresh.fresh.items c.in_ok-fresh.ensures c.in_default.ensures.none in
    let e = ap length c.as_slice-2.ensures.value in omega (arith, few, e)

pub returns-clause-ok : goal.returns-clause-ok
returns-clause-ok c =
    let h = c.args.history.now in
    let es = c.args.entries.now in
    let made : c.in_ok-fresh.fresh.items ≡ not_held (replay h).bodies es = c.in_ok-fresh.ensures ∙ ap (λ (a : Archive). not_held a.bodies es) c.requires in
    let event : c.from_vec.result ≡ not_held (replay h).bodies es = c.from_vec.ensures ∙ made in (
      batch_passes h es c.in_default.ensures.none
          (subst (λ (fs : List Entry). NonePasses (FilePasses h (Batch fs))) event c.in_ok-fit_files.ensures.ok)
          (subst (λ (a : Archive). (name : Name) → Collides a.bodies es name → ⊥) c.requires c.in_default-collision.ensures.none),
      (λ i. record { by = c.args.by; what = Batch (event i) }),
      λ i. Added (length h + 1) (ap length (c.as_slice-2.ensures.value ∙ made) i),
    )
