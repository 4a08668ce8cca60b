use Rattle.std.proofs.Common.{◌∙◌, refl, [], ◌∷◌, ◌++◌}
use Rattle.swh_snpfmt.specs.declared.branch.Branch.{Branch}
use Rattle.swh_snpfmt.specs.declared.branch.Target.TheVariants.{Object}
use Rattle.swh_snpfmt.specs.Branches.{branch_view}
use Rattle.swh_fastmeaning.proofs.HeadSides.{ascend_from, tips_turn}
use Rattle.swh_fastmeaning.proofs.aims.sides_of.Goals as goal

pub loop-name-preserved : goal.loop-name-preserved
loop-name-preserved c =
    let i = c.loop-name.invariant in
    let b : Branch = record { name = c.in_ok-from_slice.field-0; target = Object c.in-Some.target.now.name } in
    (i.0 ++ branch_view b ∷ [], tips_turn c.args.tips.now.entries c.loop-name.name-iterator c.next.new.self c.in-Some.name.now c.in-Some.target.now i.0 b i.1 c.in-Some.ensures.steps (c.in_ok-from_slice.ensures ∙ c.as_slice.ensures.value) refl, c.in_ok-sides.ensures i.0 i.2)

pub returns-clause-ascend : goal.returns-clause-ascend
returns-clause-ascend c = ascend_from c.args.tips.now.entries c.iter-name-items.ensures.ordered
