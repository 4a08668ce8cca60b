use Rattle.std.proofs.Common.{refl}
use Rattle.swh_ingest.proofs.sending_parts.share_held.Goals as goal

pub names-init : goal.names-init
names-init g c = record { looks = (g.met.P.Destination.lawful c.args.destination.now).none c.args.writer.now c.requires.ready; same = refl }
