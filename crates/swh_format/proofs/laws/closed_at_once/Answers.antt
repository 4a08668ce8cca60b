use Rattle.swh_format.proofs.Unique.{none_from, none_only}
use Rattle.swh_format.proofs.laws.closed_at_once.Goals as goal

pub returns : goal.returns
returns c = record {
  empty = λ ledger store rest gate. none_from gate rest ledger store;
  only = λ ledger store rest gate h. none_only gate rest ledger store h;
}
