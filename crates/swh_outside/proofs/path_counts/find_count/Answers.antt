use Rattle.std.proofs.Common.{rules, ◌≡◌, ◌≤◌, true, get_or, length, sym, ◌∙◌, ap, arith}
use Rattle.std.proofs.lemmas.List.Sums.{position_or_len_is}
use Rattle.swh_outside.specs.Counts.{is_of}
use Rattle.swh_outside.proofs.FirstsLaws.{none_passes}
use Rattle.swh_outside.proofs.path_counts.find_count.Goals as goal

pub returns-then-is_of-clause-first : goal.returns-then-is_of-clause-first
returns-then-is_of-clause-first c =
    let z = c.index-counts-i.result in
    let p = is_of c.args.path.now in
    let here : p (get_or c.args.counts.now c.loop-i.i z) ≡ true = ap p (sym c.index-counts-i.is) ∙ sym c.is_of.ensures ∙ c.if-is_of.true in
    let le : c.loop-i.i ≤ length c.args.counts.now = search rules in
    sym (position_or_len_is p c.args.counts.now c.loop-i.i z le (c.loop-i.invariant z) (λ lt. here))

pub returns-clause-first : goal.returns-clause-first
returns-clause-first c = none_passes (is_of c.args.path.now) c.args.counts.now (λ z k h. c.loop-i.invariant z k (omega (arith, h, c.loop-i-test.false)))
