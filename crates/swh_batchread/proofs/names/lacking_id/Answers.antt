use Rattle.std.proofs.Common.{take, sym, ◌∙◌, subst}
use Rattle.std.specs.List.{AllByRecursion}
use Rattle.std.proofs.lemmas.List.{take_more, take_all}
use Rattle.swh_dedup.proofs.Elements.{all_push}
use Rattle.swh_batchread.specs.RefSteps.{HasIdIn}
use Rattle.swh_batchread.proofs.NamesKnown.{first_here}
use Rattle.swh_batchread.proofs.names.lacking_id.Goals as goal

pub loop-id-preserved : goal.loop-id-preserved
loop-id-preserved c =
    let there = HasIdIn c.args.first.now.entries in
    let ids = c.args.ids.now in
    let i = c.loop-id.id-index in
    subst (AllByRecursion there) (sym (take_more ids i _ c.loop-id-test.true)) (all_push there (take i ids) _ c.loop-id.invariant (sym c.contains_key.ensures ∙ c.if-not-contains_key.false))

pub returns-then-not-contains_key-clause-some : goal.returns-then-not-contains_key-clause-some
returns-then-not-contains_key-clause-some c =
    first_here (HasIdIn c.args.first.now.entries) c.args.ids.now c.loop-id.id-index _ c.loop-id-test.true c.loop-id.invariant
    (λ h. let found = c.contains_key.ensures in let not_found = c.if-not-contains_key.true in cc)

pub returns-clause-none : goal.returns-clause-none
returns-clause-none c = subst (AllByRecursion (HasIdIn c.args.first.now.entries)) (take_all c.loop-id.id-index c.args.ids.now c.loop-id-test.false) c.loop-id.invariant
