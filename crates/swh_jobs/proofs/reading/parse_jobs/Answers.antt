use Rattle.std.specs.Prelude.{IfErr}
use Rattle.std.proofs.Common.{Result, Ok, Err, List, ℕ}
use Rattle.swh_jobs.specs.Answers.{ExplainsJobs, SpellsNone}
use Rattle.swh_jobs.specs.declared.fault.JobsFault.{JobsFault}
use Rattle.swh_jobs.proofs.Exact.{spells_none}
use Rattle.swh_jobs.proofs.reading.parse_jobs.Goals as goal

none_spelled : {T : Type 0} (bytes : List ℕ) (result : Result T JobsFault) → IfErr result (ExplainsJobs bytes) → IfErr result (SpellsNone bytes)
none_spelled bytes (Ok jobs) h = tt
none_spelled bytes (Err fault) h = spells_none bytes fault h

pub returns-clause-none : goal.returns-clause-none
returns-clause-none c = none_spelled c.args.bytes.now c.read_owned.result c.read_owned.ensures.err
