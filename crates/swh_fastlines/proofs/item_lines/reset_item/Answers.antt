use Rattle.std.proofs.Common.{arith, codes, refl}
use Rattle.swh_base.specs.Limits.{ref_limit}
use Rattle.swh_fastlines.proofs.item_lines.reset_item.Goals as goal

pub returns-in-Over : goal.returns-in-Over
returns-in-Over c =
    let over = rw c.in-Over.is at c.in_ok-branch.ensures in
    record { word = codes "reset "; limit = ref_limit; text = c.args.name.now; one = (1, omega arith, refl); spelled = refl; passes = over }
