use Rattle.swh_snpfmt.specs.Branches.{branches_in_body}
use Rattle.swh_fastcarried.specs.Rules.{StandsAtBranch}
use Rattle.swh_fastcarried.proofs.Reaching.{if_ok, empty_set, then_same, tags_same, none_stand}
use Rattle.swh_fastcarried.proofs.tagged.tagged_of.Goals as goal

pub returns-in-Err-NotHeld : goal.returns-in-Err-NotHeld
returns-in-Err-NotHeld g c =
    let bodies = (g.L.Look.archive c.args.look.now).bodies in
    let gap = rw c.in-Err-NotHeld.field-0-is at c.in-Err-NotHeld.ensures.err in
    λ n kind. empty_set c.new.result (StandsAtBranch bodies c.args.root) c.new.ensures (none_stand bodies c.args.root gap.1) n

pub returns : goal.returns
returns g c =
    let bodies = (g.L.Look.archive c.args.look.now).bodies in
    if_ok c.tagged_by.result (λ tagged is n kind. then_same (is n) (tags_same bodies c.args.root (branches_in_body c.in-Ok.branches.items) c.in-Ok.ensures.ok n kind)) (rw c.as_slice.ensures.value at c.tagged_by.ensures)
