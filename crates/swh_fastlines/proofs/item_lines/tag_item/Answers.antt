use Rattle.std.proofs.Common.{arith, codes, refl}
use Rattle.swh_base.specs.Limits.{tag_limit}
use Rattle.swh_fastlines.proofs.item_lines.tag_item.Goals as goal

pub returns-in-Over : goal.returns-in-Over
returns-in-Over c =
    let over = rw c.in-Over.is at c.in_ok-branch.ensures in
    record { word = codes "tag "; limit = tag_limit; text = c.args.name.now; one = (4, omega arith, refl); spelled = refl; passes = over }
