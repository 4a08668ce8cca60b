use Rattle.swh_core.proofs.Files.{failed_same}
use Rattle.swh_core.proofs.disk.fail_call.Goals as goal

pub returns : goal.returns
returns c =
    failed_same c.args.number c.calls_before-before.result c.args.calls.now c.args.disks.now c.do_calls.new.disks c.begin_first.new.disks
    c.calls_before-before.ensures c.in_ok-do_calls.ensures c.in_ok-begin_first.ensures
