use Rattle.swh_http.proofs.Unique.{asks-unique}
use Rattle.swh_http.proofs.laws.one_answer.Goals as goal

pub returns : goal.returns
returns c = asks-unique
