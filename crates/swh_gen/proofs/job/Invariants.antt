use Rattle.std.proofs.Common.{◌≡◌, ◌++◌, ◌-◌}
use Rattle.swh_gen.specs.Stream.{commits_from, job_text}
use Rattle.swh_gen.proofs.job.Given as goal

abbrev pub invariant-loop-place : goal.invariant-loop-place
invariant-loop-place l =
    l.text.items ++ commits_from (l.size - l.place) l.place l.state ≡ job_text l.fn.seed l.fn.i l.size
