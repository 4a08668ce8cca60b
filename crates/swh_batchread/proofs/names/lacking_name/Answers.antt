use Rattle.std.proofs.Common.{Contains, take, sym, subst}
use Rattle.std.specs.List.{AllByRecursion}
use Rattle.std.proofs.lemmas.List.{take_more, take_all}
use Rattle.swh_dedup.proofs.Elements.{all_push}
use Rattle.swh_batchread.proofs.NamesKnown.{first_here}
use Rattle.swh_batchread.proofs.names.lacking_name.Goals as goal

pub loop-kid-preserved : goal.loop-kid-preserved
loop-kid-preserved c =
    let there = Contains c.args.names.now in
    let kids = c.args.kids.now in
    let i = c.loop-kid.kid-index in
    subst (AllByRecursion there) (sym (take_more kids i _ c.loop-kid-test.true)) (all_push there (take i kids) _ c.loop-kid.invariant (c.contains.ensures.0 c.if-not-contains.false))

pub returns-then-not-contains-clause-some : goal.returns-then-not-contains-clause-some
returns-then-not-contains-clause-some c =
    first_here (Contains c.args.names.now) c.args.kids.now c.loop-kid.kid-index _ c.loop-kid-test.true c.loop-kid.invariant
    (λ h. let found = c.contains.ensures.1 h in let not_found = c.if-not-contains.true in cc)

pub returns-clause-none : goal.returns-clause-none
returns-clause-none c = subst (AllByRecursion (Contains c.args.names.now)) (take_all c.loop-kid.kid-index c.args.kids.now c.loop-kid-test.false) c.loop-kid.invariant
