use Rattle.swh_swhid.proofs.Values.{one_printed}
use Rattle.swh_swhid.proofs.laws.one_printed_text.Goals as goal

pub returns : goal.returns
returns c = one_printed
