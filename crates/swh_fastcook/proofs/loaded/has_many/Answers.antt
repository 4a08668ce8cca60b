use Rattle.std.proofs.Common.{◌≤◌, length, arith}
use Rattle.swh_snpfmt.specs.Branches.{branches_in_body}
use Rattle.swh_fastcook.specs.Loaded.{without_head}
use Rattle.swh_fastcook.proofs.Loads.{held_same}
use Rattle.swh_fastcook.proofs.loaded.has_many.Goals as goal

pub returns : goal.returns
returns g c =
    let branches = branches_in_body c.in-Ok.branches.items in
    let is = rw c.as_slice.ensures.value at c.count_others.ensures in
    let less = c.if-count_others-gt-BRANCHES_LIMIT.false in
    let few : length (without_head branches) ≤ 65536 = omega (arith, is, less) in
    held_same (g.L.Look.archive c.args.look.now).bodies c.args.root branches c.in-Ok.ensures.ok c.has_long_body.result few c.has_long_body.ensures
