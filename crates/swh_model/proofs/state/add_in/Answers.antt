use Rattle.std.proofs.Common.{◌≡◌, ◌∷◌, ◌++◌, [], List, take, ap, sym, ◌∙◌, subst, All, append_assoc}
use Rattle.std.proofs.lemmas.List.Elements.{All-push}
use Rattle.swh_base.specs.declared.entry.Entry.{Entry}
use Rattle.swh_model.specs.Step.{HasItsChildren}
use Rattle.swh_model.proofs.PlainLists.{take-more, all-at}
use Rattle.swh_model.proofs.state.add_in.Goals as goal

pub loop-entry-preserved : goal.loop-entry-preserved
loop-entry-preserved c =
    let e = c.entry-item.result in
    let copy : c.in_ok-again.field-0 ≡ e = c.in_ok-again.ensures in
    let pushed : c.push.new.self.items ≡ c.loop-entry.entries.items ++ e ∷ [] = c.in_ok-push.ensures.items ∙ ap (λ (x : Entry). c.loop-entry.entries.items ++ x ∷ []) copy in
    record {
      added_so_far = pushed ∙ ap (λ (es : List Entry). es ++ e ∷ []) c.loop-entry.invariant.added_so_far
          ∙ append_assoc c.args.entries.now.items (take c.loop-entry.entry-index c.args.batch.now) (e ∷ [])
          ∙ ap (λ (es : List Entry). c.args.entries.now.items ++ es) (sym (take-more c.args.batch.now c.loop-entry.entry-index e c.loop-entry-test.true c.entry-item.is));
      good = subst (All HasItsChildren) (sym pushed)
          (All-push HasItsChildren c.loop-entry.entries.items e c.loop-entry.invariant.good
          (all-at HasItsChildren c.args.batch.now c.loop-entry.entry-index e c.requires.more c.loop-entry-test.true c.entry-item.is));
    }
