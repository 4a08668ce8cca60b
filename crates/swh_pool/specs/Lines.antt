-- The lines that report jobs.
use Rattle.std.specs.Prelude.{ℕ, ◌+◌, Result, List, [], ◌∷◌, map, zip, flat_map}
use Rattle.swh_inputs.specs.Opening.{kind_of}
use Rattle.swh_loader.specs.declared.end.Loaded.{Loaded}
use Rattle.swh_ingest.specs.declared.end.LoadFault.{LoadFault}
use Rattle.swh_loader.specs.Report.{report_of, report_line_limit}
use Rattle.swh_pool.specs.declared.dated.DatedJob.{DatedJob}

-- the most bytes of the lines of these jobs
abbrev pub room_of : {S F : Type 0} → List (DatedJob S F) → ℕ
room_of [] = 0
room_of (j ∷ jobs) = report_line_limit (kind_of j.job.input) + room_of jobs

-- the jobs' origins, each beside its outcome
abbrev pub ended : {S F : Type 0} → List (DatedJob S F) → List (Result Loaded LoadFault) → List (List ℕ × Result Loaded LoadFault)
ended jobs outcomes = zip (map (λ j. j.job.origin) jobs) outcomes

-- the lines of these
abbrev pub lines_of : List (List ℕ × Result Loaded LoadFault) → List ℕ
lines_of jobs = flat_map (λ j. report_of j.0 j.1) jobs
