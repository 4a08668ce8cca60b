use Rattle.std.proofs.Common.{◌+◌, List, ℕ, ◌++◌, length, ap, ◌∙◌, arith}
use Rattle.std.proofs.lemmas.List.{length-map}
use Rattle.swh_jobs.specs.JobFile.{BeginsJob}
use Rattle.swh_jobs.specs.Spelled.{spelled_job, all_spelled}
use Rattle.swh_jobs.proofs.Lines.{first-ends, first_of}
use Rattle.swh_jobs.proofs.Origins.{new_origin, old_origin, known-push}
use Rattle.swh_jobs.proofs.reading.next_job.Goals as goal

pub returns-in_default-clause-err : goal.returns-in_default-clause-err
returns-in_default-clause-err c =
    let many = length-map c.args.before.now spelled_job in
    let room = c.if-before-ge-JOBS_LIMIT.false in (
      omega (arith, many),
      (
        omega (arith, many, room),
        λ job h. c.in_default.ensures.none job (record { is_job = h.is_job; text = first_of c.args.rest.now c.first_line.result.0.now c.first_line.result.1.now job c.first_line.ensures h }),
      ),
    )

pub returns-then-not-branch-clause-err : goal.returns-then-not-branch-clause-err
returns-then-not-branch-clause-err c =
    let many = length-map c.args.before.now spelled_job in
    let room = c.if-before-ge-JOBS_LIMIT.false in
    let line = c.in-Some.ensures.some in
    let ends = first-ends c.args.rest.now c.first_line.result.0.now c.first_line.result.1.now c.first_line.ensures in
    let begins : BeginsJob c.args.rest.now (spelled_job c.in-Some.job) = record { is_job = line.is_job; behind = ends.0; text = ends.1 ∙ ap (λ (l : List ℕ). l ++ ends.0) line.text; ends = ends.2 } in
    let again = old_origin c.args.origins.now.keys (all_spelled c.args.before.now) c.as_bytes.result c.in-Some.job.url.now c.in_ok-insert.field-0 c.requires.known c.as_bytes.ensures.value c.in_ok-insert.ensures.added c.if-not-branch.true in
    (omega (arith, many), (omega (arith, many, room), record { job = spelled_job c.in-Some.job; begins = begins; again = again }))

pub returns-clause-follows : goal.returns-clause-follows
returns-clause-follows c =
    let many = length-map c.args.before.now spelled_job in
    let room = c.if-before-ge-JOBS_LIMIT.false in
    record {
      room = omega (arith, many, room);
      is_job = c.in-Some.ensures.some.is_job;
      fresh = new_origin c.args.origins.now.keys (all_spelled c.args.before.now) c.as_bytes.result c.in-Some.job.url.now c.in_ok-insert.field-0 c.requires.known c.as_bytes.ensures.value c.in_ok-insert.ensures.added c.if-not-branch.false;
    }

pub returns-clause-known : goal.returns-clause-known
returns-clause-known c = known-push c.args.origins.now.keys c.insert.new.self.keys (all_spelled c.args.before.now) c.as_bytes.result (spelled_job c.in-Some.job) c.requires.known c.as_bytes.ensures.value c.in_ok-insert.ensures.updates.0
