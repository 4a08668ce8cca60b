use Rattle.std.proofs.Common.{vec_len}
use Rattle.swh_loader_tests.proofs.job_world.let_go.Given as goal

abbrev pub decreases-jobs : goal.decreases-jobs
decreases-jobs l = vec_len l.jobs
