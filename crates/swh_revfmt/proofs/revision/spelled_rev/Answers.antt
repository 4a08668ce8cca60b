use Rattle.swh_revfmt.proofs.Faults.{revision_fault}
use Rattle.swh_revfmt.proofs.revision.spelled_rev.Goals as goal

pub returns-in_default-clause-err : goal.returns-in_default-clause-err
returns-in_default-clause-err c = revision_fault c.args.body.now c.line_place-at.result c.in_default.ensures.none c.line_place-at.ensures
