use Rattle.std.proofs.Common.{◌≡◌}
use Rattle.std.specs.declared.cmp.Ordering.TheVariants.{Less, Equal, Greater}
use Rattle.swh_snpfmt.specs.Branches.{branch_view}
use Rattle.swh_fastmeaning.specs.Ending.{head_to}
use Rattle.swh_fastmeaning.proofs.HeadSides.{side_before, side_same, side_after}
use Rattle.swh_fastmeaning.proofs.sides.with_branch.Goals as goal

pub returns-in_ok-push-in-Greater : goal.returns-in_ok-push-in-Greater
returns-in_ok-push-in-Greater c all h =
    let name = c.as_slice-2.ensures in
    let word = c.as_slice.ensures in
    let compared = c.cmp.ensures in
    let found = c.in-Greater.is in
    let o : head_to (branch_view c.args.branch) ≡ Greater = cc in
    side_before all c.args.sides c.args.branch h c.push.new.self o c.in_ok-push-in-Greater.ensures.items

pub returns-in_ok-push-in-Equal : goal.returns-in_ok-push-in-Equal
returns-in_ok-push-in-Equal c all h =
    let name = c.as_slice-2.ensures in
    let word = c.as_slice.ensures in
    let compared = c.cmp.ensures in
    let found = c.in-Equal.is in
    let o : head_to (branch_view c.args.branch) ≡ Equal = cc in
    side_same all c.args.sides c.args.branch h c.push-in-Equal.new.self o c.in_ok-push-in-Equal.ensures.items

pub returns-in_ok-push-in-Less : goal.returns-in_ok-push-in-Less
returns-in_ok-push-in-Less c all h =
    let name = c.as_slice-2.ensures in
    let word = c.as_slice.ensures in
    let compared = c.cmp.ensures in
    let found = c.in-Less.is in
    let o : head_to (branch_view c.args.branch) ≡ Less = cc in
    side_after all c.args.sides c.args.branch h c.push-in-Less.new.self o c.in_ok-push-in-Less.ensures.items
