use Rattle.swh_fastcook.proofs.HeadTargets.{no_head}
use Rattle.swh_fastcook.proofs.heads.snapshot_head.Goals as goal

pub returns : goal.returns
returns g c =
    no_head (g.L.Look.archive c.args.look.now).bodies c.args.root c.requires c.in-Ok.branches.items c.in-Ok.ensures.ok (rw c.as_slice.ensures.value at c.in-None.ensures.none)
