use Rattle.std.proofs.Common.{inr, refl, subst}
use Rattle.swh_program.specs.Jobs.{IsJobRefusal}
use Rattle.swh_program.proofs.Leaving.{no_disk_told, job_refused}
use Rattle.swh_program.proofs.Owned.{keeps_no_jobs}
use Rattle.swh_program.proofs.outside.Outside.load.Goals as goal

pub returns-in-Err-clause-loads : goal.returns-in-Err-clause-loads
returns-in-Err-clause-loads g c =
    let r = c.in-Err.ensures in
    record {
      ends = inr (record { one_of = r.one_of; refused = r.refused; same = λ t. refl });
      elsewhere = λ t. record { elsewhere = λ d n apart. refl };
      own = λ t. keeps_no_jobs g.N.Namer.id_of _ _ c.in-Err.answer refl r.one_of;
      disk_cause = λ tells. absurd (no_disk_told c.in-Err.answer r.one_of tells);
      source_cause = r.cause;
      clock_cause = λ is. absurd (subst IsJobRefusal is r.one_of);
      left = job_refused _ (record { depot = refl; origins = refl; clock = refl }) c.in-Err.answer r.one_of;
    }
