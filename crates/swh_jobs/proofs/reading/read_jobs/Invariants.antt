use Rattle.std.proofs.Common.{length}
use Rattle.swh_jobs.specs.JobFile.{AreJobs}
use Rattle.swh_jobs.specs.Reading.{AreOrigins, IsLeft}
use Rattle.swh_jobs.specs.Spelled.{all_spelled}
use Rattle.swh_jobs.proofs.reading.read_jobs.Given as goal

abbrev pub invariant-loop-rest : goal.invariant-loop-rest
invariant-loop-rest l = record {
  good : AreJobs (all_spelled l.jobs.items);
  left : IsLeft l.bytes (all_spelled l.jobs.items) l.rest;
  known : AreOrigins l.origins.keys (all_spelled l.jobs.items);
}

abbrev pub decreases-loop-rest : goal.decreases-loop-rest
decreases-loop-rest l = length l.rest
