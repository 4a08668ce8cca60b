use Rattle.std.proofs.Common.{◌≡◌, ◌∷◌, ◌++◌, [], List, false, true, refl, ap, subst, ◌∙◌}
use Rattle.swh_base.specs.declared.entry.Entry.{Entry}
use Rattle.swh_model.specs.Archive.{IsHeld}
use Rattle.swh_model.specs.Step.{added}
use Rattle.swh_model.proofs.Entries.{held_not_none, none_unless_held}
use Rattle.swh_model.proofs.Batches.{not_true, fresh-kept, fresh-passed}
use Rattle.swh_model.proofs.fresh.fresh_of.Goals as goal

pub loop-entry-preserved-then-is_taken : goal.loop-entry-preserved-then-is_taken
loop-entry-preserved-then-is_taken c =
    let bodies = c.args.state.now.bodies in
    let e = c.entry-item.result in
    fresh-passed bodies c.args.entries.now c.loop-entry.fresh.items c.loop-entry.entry-index e c.loop-entry-test.true c.entry-item.is c.loop-entry.invariant
    (λ none. held_not_none (added bodies c.loop-entry.fresh.items) e.name none
    (subst (λ (fs : List Entry). IsHeld (added bodies fs) e.name) c.as_slice.ensures.value (c.if-is_taken.ensures.0 refl)))

pub loop-entry-preserved : goal.loop-entry-preserved
loop-entry-preserved c =
    let bodies = c.args.state.now.bodies in
    let e = c.entry-item.result in
    let fresh = c.loop-entry.fresh.items in
    let taken = subst (λ (fs : List Entry). IsHeld (added bodies fs) e.name → false ≡ true) c.as_slice.ensures.value c.if-is_taken.ensures.1 in
    c.in_ok-push.ensures.items ∙ ap (λ (x : Entry). fresh ++ x ∷ []) c.in_ok-again.ensures
    ∙ fresh-kept bodies c.args.entries.now fresh c.loop-entry.entry-index e c.loop-entry-test.true c.entry-item.is c.loop-entry.invariant
    (none_unless_held (added bodies fresh) e.name (λ held. not_true (taken held)))
