use Rattle.std.proofs.Common.{◌≡◌, ◌++◌, false, Some, sym, ap, ◌∙◌}
use Rattle.swh_entries.specs.declared.entry.Gap.{Gap}
use Rattle.swh_entries.specs.Gaps.{entry_before}
use Rattle.swh_entries.specs.Keys.{texts, entry_key, is_before}
use Rattle.swh_forest.proofs.Gaps.{low-side}
use Rattle.swh_forest.proofs.node.is_low.Goals as goal

pub returns-else-before : goal.returns-else-before
returns-else-before c = λ yes es o here.
    let e = c.in-Some.entry in
    let before : Some e ≡ entry_before es c.args.gap.now.place = sym c.in-Some.is ∙ ap (λ (g : Gap). g.before) here in
    let past : is_before (c.args.name.now ++ c.args.end.now) (entry_key (texts c.args.names.now) e) ≡ false = sym c.comes_before-before.ensures ∙ c.if-before.false in
    low-side (texts c.args.names.now) (c.args.name.now ++ c.args.end.now) es c.args.gap.now.place e o before past
