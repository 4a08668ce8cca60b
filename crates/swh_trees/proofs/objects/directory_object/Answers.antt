use Rattle.std.proofs.Common.{refl}
use Rattle.swh_base.specs.Directory.{children_of}
use Rattle.swh_trees.proofs.objects.directory_object.Goals as goal

pub unreachable-requires : goal.unreachable-requires
unreachable-requires g c =
    let err = rw c.in-Err-BadBody.field-0-is at c.in-Err-BadBody.ensures.err in
    let only = rw c.in-Err-BadBody.field-0-is at c.in-Err-BadBody.ensures.only in
    only err.0 (children_of c.of-entries.result, record { entries = c.of-entries.result; directory = rw c.shrink_to_fit.ensures.items c.in_ok-body.ensures.directory; kids = refl })
