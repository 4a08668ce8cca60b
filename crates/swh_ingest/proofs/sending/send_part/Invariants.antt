use Rattle.std.proofs.Common.{[], ◌++◌, length}
use Rattle.swh_ingest.specs.Knowing.{held_in}
use Rattle.swh_ingest.specs.Owning.{AreAmong, IsBatchAmong}
use Rattle.swh_ingest.specs.Sending.{IsPendingBatch, KeepsInHand}
use Rattle.swh_ingest.specs.Walking.{Adds}
use Rattle.swh_ingest.proofs.Waiting.{Took}
use Rattle.swh_ingest.proofs.sending.send_part.Given as goal

abbrev pub invariant-objects : goal.invariant-objects
invariant-objects g l = record {
  adds : Adds (g.P.Destination.protocol l.destination) (IsBatchAmong (g.P.Destination.protocol l.destination).alone (l.fn.pending.objects.items ++ l.fn.objects.items)) [] l.fn.writer l.writer;
  waits : IsPendingBatch g.N.Namer.id_of (g.P.Destination.protocol l.destination).alone (held_in ((g.P.Destination.protocol l.destination).known l.writer)) l.waiting;
  among : AreAmong (l.fn.pending.objects.items ++ l.fn.objects.items) l.waiting.objects.items;
  keeps : KeepsInHand (held_in ((g.P.Destination.protocol l.destination).known l.fn.writer)) l.fn.pending (held_in ((g.P.Destination.protocol l.destination).known l.writer)) l.waiting;
  took : Took g.N.Namer.id_of (g.P.Destination.protocol l.destination).alone (held_in ((g.P.Destination.protocol l.destination).known l.writer)) l.waiting l.fn.objects.items l.left.items;
}

abbrev pub decreases-objects : goal.decreases-objects
decreases-objects g l = length l.left.items
