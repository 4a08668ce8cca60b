use Rattle.std.proofs.Common.{refl}
use Rattle.swh_batchread.specs.RefSteps.{line_of}
use Rattle.swh_batchread.proofs.RefsHeld.{puts}
use Rattle.swh_batchread.proofs.refs.put_ref.Goals as goal

pub returns : goal.returns
returns c = puts (line_of c.args.found.now) c.args.counted c.args.refs.now _ c.in_ok-name.name c.requires c.in_ok-name.ensures.items c.in_ok-push.ensures.items c.in_ok-insert.ensures.entries refl
