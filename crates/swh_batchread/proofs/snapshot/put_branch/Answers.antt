use Rattle.std.proofs.Common.{length, ap, sym, subst}
use Rattle.swh_base.specs.Name.{IsId}
use Rattle.swh_batchread.specs.RefSteps.{line_at, kind_in}
use Rattle.swh_batchread.proofs.SnapshotMade.{bytes_of_one}
use Rattle.swh_batchread.proofs.snapshot.put_branch.Goals as goal

pub returns-clause-added : goal.returns-clause-added
returns-clause-added c =
    bytes_of_one (kind_in c.args.first.now.entries) (line_at (c.args.name, c.args.id)) c.in-Some.kind.now (length c.as_slice.result.now) c.frame_length.result (sym c.in-Some.ensures.value) (ap length c.as_slice.ensures.value)
    (c.frame_length.ensures.length (line_at (c.args.name, c.args.id)) (subst IsId c.whole_id-id.ensures.same c.whole_id-id.ensures.id))
