use Rattle.std.proofs.Common.{refl, sym, subst, take}
use Rattle.swh_model.specs.Step.{AreNew, added}
use Rattle.swh_model.proofs.Entries.{new-at, new-push, held_not_none, none_unless_held}
use Rattle.swh_model.proofs.Batches.{not_true}
use Rattle.swh_model.proofs.PlainLists.{take-more}
use Rattle.swh_model.proofs.stepping.are_new.Goals as goal

pub returns-then-is_taken : goal.returns-then-is_taken
returns-then-is_taken c =
    let bodies = c.args.state.now.bodies in
    let es = c.args.entries.now in
    let e = c.index-entries-place.result in (
      λ t. not_true t,
      λ new. absurd (held_not_none (added bodies (take c.loop-place.place es)) e.name
          (new-at bodies es c.loop-place.place e c.loop-place-test.true c.index-entries-place.is new) (c.if-is_taken.ensures.0 refl)),
    )

pub loop-place-preserved : goal.loop-place-preserved
loop-place-preserved c =
    let bodies = c.args.state.now.bodies in
    let es = c.args.entries.now in
    let e = c.index-entries-place.result in
    let before_ = take c.loop-place.place es in
    subst (AreNew bodies) (sym (take-more es c.loop-place.place e c.loop-place-test.true c.index-entries-place.is))
    (new-push bodies before_ e c.loop-place.invariant (none_unless_held (added bodies before_) e.name (λ held. not_true (c.if-is_taken.ensures.1 held))))
