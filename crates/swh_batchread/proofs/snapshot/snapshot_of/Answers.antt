use Rattle.std.proofs.Common.{ap, ◌∙◌}
use Rattle.swh_base.specs.Snapshot.{snapshot_text}
use Rattle.swh_snpfmt.specs.Branches.{branch_views}
use Rattle.swh_batchread.proofs.SnapshotMade.{snapshot_good}
use Rattle.swh_batchread.proofs.snapshot.snapshot_of.Goals as goal

pub make_object-requires-after_bounds : goal.make_object-requires-after_bounds
make_object-requires-after_bounds g c κs within = snapshot_good (branch_views c.args.listing.branches.items) c.in_ok-body.body.items c.requires.good (c.in_ok-body.ensures.snapshot.text ∙ ap snapshot_text c.of.ensures)
