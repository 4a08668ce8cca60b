use Rattle.swh_api.proofs.Unique as unique
use Rattle.swh_api.proofs.laws.one_answer.Goals as goal

pub returns : goal.returns
returns c = unique.one_answer
