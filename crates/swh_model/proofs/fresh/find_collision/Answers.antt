use Rattle.std.proofs.Common.{◌≡◌, Some, List, ap, sym, subst, ◌∙◌}
use Rattle.std.specs.List.{AllByRecursion}
use Rattle.std.proofs.lemmas.List.{take_all}
use Rattle.swh_base.specs.declared.entry.Entry.{Entry}
use Rattle.swh_model.specs.Archive.{body_of}
use Rattle.swh_model.specs.Step.{added}
use Rattle.swh_model.proofs.Batches.{not_true, collides, no_collision, item_in, all_in}
use Rattle.swh_model.proofs.fresh.find_collision.Goals as goal

pub returns-then-not-is_bodied-clause-some : goal.returns-then-not-is_bodied-clause-some
returns-then-not-is_bodied-clause-some c =
    let bodies = c.args.state.now.bodies in
    let e = c.entry-item.result in
    collides bodies c.args.entries.now e (item_in c.args.entries.now c.loop-entry.entry-index e c.loop-entry-test.true c.entry-item.is)
    (λ same. not_true (c.if-not-is_bodied.ensures.1 (ap (λ (es : List Entry). body_of (added bodies es) e.name) c.requires ∙ same)))

pub returns-clause-none : goal.returns-clause-none
returns-clause-none c =
    let bodies = c.args.state.now.bodies in
    let es = c.args.entries.now in
    let all : AllByRecursion (λ e. body_of (added bodies c.args.fresh.now) e.name ≡ Some e.body) es =
    subst (AllByRecursion (λ e. body_of (added bodies c.args.fresh.now) e.name ≡ Some e.body)) (take_all c.loop-entry.entry-index es c.loop-entry-test.false) c.loop-entry.invariant in
    no_collision bodies es
    (λ e there. ap (λ (fs : List Entry). body_of (added bodies fs) e.name) (sym c.requires) ∙ all_in (λ f. body_of (added bodies c.args.fresh.now) f.name ≡ Some f.body) es all e there)
