use Rattle.std.proofs.Common.{rules, ◌≡◌, ◌≢◌, List, [], ◌∷◌, ◌++◌, sym, subst}
use Rattle.swh_base.proofs.Lasts.{map_end}
use Rattle.swh_jobs.specs.Job.{Job}
use Rattle.swh_jobs.specs.JobFile.{AreJobs}
use Rattle.swh_jobs.specs.Reading.{AreOrigins, IsLeft}
use Rattle.swh_jobs.specs.Spelled.{spelled_job, all_spelled}
use Rattle.swh_jobs.proofs.Follows.{jobs-push}
use Rattle.swh_jobs.proofs.Lines.{read_more}
use Rattle.swh_jobs.proofs.reading.read_jobs.Goals as goal

pub loop-rest-preserved : goal.loop-rest-preserved
loop-rest-preserved c =
    let before = all_spelled c.loop-rest.jobs.items in
    let job = spelled_job c.in-Ok.next.0 in
    let views : all_spelled c.push.new.self.items ≡ before ++ job ∷ [] = map_end spelled_job c.push.new.self.items c.loop-rest.jobs.items c.in-Ok.next.0 c.in_ok-push.ensures.items in
    let follows = rw c.deref.ensures.value at c.in-Ok.ensures.follows in
    let known = rw c.deref.ensures.value at c.in-Ok.ensures.known in
    let more : c.loop-rest.rest.now ≢ [] = search rules in
    record {
      good = subst AreJobs (sym views) (jobs-push before job c.loop-rest.invariant.good follows);
      left = subst (λ (jobs : List Job). IsLeft c.args.bytes.now jobs c.in-Ok.next.1.now) (sym views) (read_more c.args.bytes.now before job c.loop-rest.rest.now c.in-Ok.next.1.now c.loop-rest.invariant.left more c.in-Ok.ensures.line);
      known = subst (AreOrigins c.next_job.new.origins.keys) (sym views) known;
    }
