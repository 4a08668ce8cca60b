use Rattle.std.proofs.Common.{rules, ◌≡◌, ◌≤◌, true, get_or, length, sym, ◌∙◌, ap, arith}
use Rattle.std.proofs.lemmas.List.Sums.{position_or_len_is}
use Rattle.swh_outside.proofs.FirstsLaws.{none_passes}
use Rattle.swh_memory_input.specs.Folders.{is_folder_for}
use Rattle.swh_memory_input.proofs.origins.find_folder.Goals as goal

pub returns-then-is_for-clause-first : goal.returns-then-is_for-clause-first
returns-then-is_for-clause-first c =
    let z = c.index-folders-i.result in
    let p = is_folder_for c.args.path.now in
    let here : p (get_or c.args.folders.now c.loop-i.i z) ≡ true = ap p (sym c.index-folders-i.is) ∙ sym c.is_for.ensures ∙ c.if-is_for.true in
    let le : c.loop-i.i ≤ length c.args.folders.now = search rules in
    sym (position_or_len_is p c.args.folders.now c.loop-i.i z le (c.loop-i.invariant z) (λ lt. here))

pub returns-clause-first : goal.returns-clause-first
returns-clause-first c = none_passes (is_folder_for c.args.path.now) c.args.folders.now (λ z k h. c.loop-i.invariant z k (omega (arith, h, c.loop-i-test.false)))
