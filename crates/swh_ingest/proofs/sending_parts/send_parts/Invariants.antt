use Rattle.std.proofs.Common.{◌≡◌, []}
use Rattle.swh_dedup.specs.Whole.{names_of}
use Rattle.swh_ingest.specs.Knowing.{held_in}
use Rattle.swh_ingest.specs.Parts.{AreGiven, IsBatchFor}
use Rattle.swh_ingest.specs.Sending.{IsPendingBatch}
use Rattle.swh_ingest.specs.Walking.{Adds}
use Rattle.swh_ingest.proofs.InHand.{HasInHand}
use Rattle.swh_ingest.proofs.sending_parts.send_parts.Given as goal

abbrev pub invariant-parts : goal.invariant-parts
invariant-parts g l = record {
  adds : Adds (g.P.Destination.protocol l.destination) (IsBatchFor (g.P.Destination.protocol l.destination).alone (AreGiven (g.R.ReadsParts.gives l.read) l.fn.input)) [] l.fn.writer l.writer;
  waits : IsPendingBatch g.N.Namer.id_of (g.P.Destination.protocol l.destination).alone (held_in ((g.P.Destination.protocol l.destination).known l.writer)) l.pending;
  hand : HasInHand (g.R.ReadsParts.gives l.read) l.fn.input (held_in ((g.P.Destination.protocol l.destination).known l.writer)) l.pending l.input;
  names : l.names.items ≡ names_of hand.objects;
  takes : g.R.ReadsParts.takes l.read l.input;
}

abbrev pub decreases-parts : goal.decreases-parts
decreases-parts g l = g.R.ReadsParts.left l.read l.input
