use Rattle.std.proofs.Common.{◌≡◌, []}
use Rattle.swh_ingest.proofs.sending_parts.share_held.Given as goal

abbrev pub invariant-names : goal.invariant-names
invariant-names g l = record {
  looks : (g.P.Destination.protocol l.destination).adds [] l.fn.writer l.writer;
  same : l.input ≡ l.fn.input;
}
