use Rattle.swh_jobs.proofs.Exact.{one_reading_lem}
use Rattle.swh_jobs.proofs.laws.one_reading.Goals as goal

pub returns : goal.returns
returns c = one_reading_lem
