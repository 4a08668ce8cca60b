use Rattle.swh_revfmt.specs.Reading.{release_spelled}
use Rattle.swh_fastcarried.proofs.OwnBranches.{at_own}
use Rattle.swh_fastcarried.proofs.branches.is_at_own_branch.Goals as goal

pub returns : goal.returns
returns g c =
    at_own (g.L.Look.archive c.args.look.now).bodies c.args.branch.now c.args.name c.in-Some.body.now c.in-Some.ensures.held (release_spelled c.in-Ok.release) (rw c.as_slice.ensures at c.in-Ok.ensures.ok) c.is_tag_branch.result c.is_tag_branch.ensures
