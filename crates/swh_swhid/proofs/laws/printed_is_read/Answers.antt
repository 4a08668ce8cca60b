use Rattle.swh_swhid.proofs.Ways.{printed_reads}
use Rattle.swh_swhid.proofs.laws.printed_is_read.Goals as goal

pub returns : goal.returns
returns c = printed_reads
