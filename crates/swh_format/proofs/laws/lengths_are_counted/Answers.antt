use Rattle.swh_format.proofs.Lengths.{stored-length, payload-length, runs-length, ledger-length}
use Rattle.swh_format.proofs.laws.lengths_are_counted.Goals as goal

pub returns : goal.returns
returns c = record { run = stored-length; payload = payload-length; store = runs-length; ledger = ledger-length }
