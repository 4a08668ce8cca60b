use Rattle.swh_swhid.specs.Qualifier.{HasSwhid}
use Rattle.swh_swhid.proofs.Fronts.{one_break}
use Rattle.swh_swhid.proofs.laws.one_place.Goals as goal

pub returns : goal.returns
returns c = one_break HasSwhid
