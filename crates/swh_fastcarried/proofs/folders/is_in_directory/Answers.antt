use Rattle.swh_dirfmt.specs.Entries.{entries_in_body}
use Rattle.swh_fastcarried.proofs.Ones.{folders_at}
use Rattle.swh_fastcarried.proofs.Reaching.{then_same}
use Rattle.swh_fastcarried.proofs.folders.is_in_directory.Goals as goal

pub returns : goal.returns
returns g c =
    then_same (rw c.as_slice.ensures.value at c.lead_to.ensures)
    (folders_at (g.L.Look.archive c.args.look.now).bodies c.args.parent c.requires (entries_in_body c.in-Ok.entries.items) c.in-Ok.ensures.ok c.args.name)
