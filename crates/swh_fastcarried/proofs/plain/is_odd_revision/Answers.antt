use Rattle.swh_fastcarried.proofs.OddObjects.{odd_revision}
use Rattle.swh_fastcarried.proofs.plain.is_odd_revision.Goals as goal

pub returns : goal.returns
returns g c =
    odd_revision (g.L.Look.archive c.args.look.now).bodies c.args.name c.requires c.in-Some.body.now c.in-Some.ensures.held c.in_ok-plain.plain c.is_none.result c.is_none.ensures (rw c.as_slice.ensures at c.in_ok-plain.ensures.some)
    (rw c.as_slice.ensures at c.in_ok-plain.ensures.none)
