use Rattle.swh_snpfmt.specs.Branches.{branches_in_body}
use Rattle.swh_fastcarried.proofs.Reaching.{then_same, odd_same, none_odd}
use Rattle.swh_fastcarried.proofs.first.has_odd_branch.Goals as goal

pub returns-in-Err-NotHeld : goal.returns-in-Err-NotHeld
returns-in-Err-NotHeld g c =
    let gap = rw c.in-Err-NotHeld.field-0-is at c.in-Err-NotHeld.ensures.err in
    λ top. (λ t. cc, λ h. absurd (none_odd (g.L.Look.archive c.args.look.now).bodies c.args.root gap.1 top h))

pub returns : goal.returns
returns g c =
    λ top. then_same (rw c.as_slice.ensures.value at c.have_odd_branch.ensures) (odd_same (g.L.Look.archive c.args.look.now).bodies c.args.root (branches_in_body c.in-Ok.branches.items) c.in-Ok.ensures.ok top)
