use Rattle.std.proofs.Common.{map, sym}
use Rattle.swh_core.specs.World.{called}
use Rattle.swh_core.specs.Answers.{file_call}
use Rattle.swh_core.proofs.Files.{one_more_done}
use Rattle.swh_core.proofs.disk.do_calls.Goals as goal

pub loop-call-preserved : goal.loop-call-preserved
loop-call-preserved c =
    one_more_done c.args.calls.now c.loop-call.call-index c.call-item.result c.loop-call.disks c.do_event_call.new.disks
    (called (map file_call c.args.calls.now) c.args.disks.now) c.loop-call-test.true (sym c.call-item.is) c.loop-call.invariant c.in_ok-do_event_call.ensures
