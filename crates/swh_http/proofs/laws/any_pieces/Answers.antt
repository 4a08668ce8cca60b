use Rattle.swh_http.proofs.Pieces.{asks-more, closed-more}
use Rattle.swh_http.proofs.laws.any_pieces.Goals as goal

pub returns-clause-open : goal.returns-clause-open
returns-clause-open c = asks-more

pub returns-clause-closed : goal.returns-clause-closed
returns-clause-closed c = closed-more
