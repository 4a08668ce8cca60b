use Rattle.std.proofs.Common.{refl}
use Rattle.swh_program.proofs.job_inputs.open_job.Goals as goal

pub returns-in-Ok-open_input-clause-opened : goal.returns-in-Ok-open_input-clause-opened
returns-in-Ok-open_input-clause-opened g c = record { origin = refl; told = c.in-Ok-open_input.ensures.told; input = c.in-Ok-open_input.ensures.opened }
