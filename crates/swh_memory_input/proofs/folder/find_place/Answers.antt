use Rattle.std.proofs.Common.{rules, ◌≡◌, ◌≤◌, true, get_or, length, sym, ◌∙◌, ap, arith}
use Rattle.std.proofs.lemmas.List.Sums.{position_or_len_is}
use Rattle.swh_outside.proofs.FirstsLaws.{none_passes}
use Rattle.swh_memory_input.specs.Folders.{is_place_at}
use Rattle.swh_memory_input.proofs.folder.find_place.Goals as goal

pub returns-then-is_at-clause-first : goal.returns-then-is_at-clause-first
returns-then-is_at-clause-first c =
    let z = c.index-places-i.result in
    let p = is_place_at c.args.path.now in
    let here : p (get_or c.args.places.now c.loop-i.i z) ≡ true = ap p (sym c.index-places-i.is) ∙ sym c.is_at.ensures ∙ c.if-is_at.true in
    let le : c.loop-i.i ≤ length c.args.places.now = search rules in
    sym (position_or_len_is p c.args.places.now c.loop-i.i z le (c.loop-i.invariant z) (λ lt. here))

pub returns-clause-first : goal.returns-clause-first
returns-clause-first c = none_passes (is_place_at c.args.path.now) c.args.places.now (λ z k h. c.loop-i.invariant z k (omega (arith, h, c.loop-i-test.false)))
