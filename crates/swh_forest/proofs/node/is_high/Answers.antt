use Rattle.std.proofs.Common.{◌≡◌, ◌++◌, true, Some, None, sym, ap, ◌∙◌}
use Rattle.std.specs.List.{slice_get}
use Rattle.swh_entries.specs.declared.entry.Gap.{Gap}
use Rattle.swh_entries.specs.Keys.{texts, entry_key, is_before}
use Rattle.swh_forest.proofs.Gaps.{high-side, high-end}
use Rattle.swh_forest.proofs.node.is_high.Goals as goal

pub returns-then-before : goal.returns-then-before
returns-then-before c = λ yes es o here.
    let e = c.in-Some.entry in
    let at : Some e ≡ slice_get es c.args.gap.now.place = sym c.in-Some.is ∙ ap (λ (g : Gap). g.at) here in
    let first : is_before (c.args.name.now ++ c.args.end.now) (entry_key (texts c.args.names.now) e) ≡ true = sym c.comes_before-before.ensures ∙ c.if-before.true in
    high-side (texts c.args.names.now) (c.args.name.now ++ c.args.end.now) es c.args.gap.now.place e o at first

pub returns-in-None : goal.returns-in-None
returns-in-None c = λ yes es o here.
    let at : None ≡ slice_get es c.args.gap.now.place = sym c.in-None.is ∙ ap (λ (g : Gap). g.at) here in
    high-end (texts c.args.names.now) (c.args.name.now ++ c.args.end.now) es c.args.gap.now.place at
