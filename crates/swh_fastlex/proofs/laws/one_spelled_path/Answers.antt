use Rattle.swh_fastlex.proofs.Pieces.{one_spelling}
use Rattle.swh_fastlex.proofs.laws.one_spelled_path.Goals as goal

pub returns : goal.returns
returns c = one_spelling
