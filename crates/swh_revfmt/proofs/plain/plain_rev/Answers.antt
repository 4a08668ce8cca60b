use Rattle.swh_revfmt.specs.Reading.{revision_spelled}
use Rattle.swh_revfmt.proofs.Plains.{no_revision, other_rest}
use Rattle.swh_revfmt.proofs.plain.plain_rev.Goals as goal

pub returns-in-Err-Bad-clause-none : goal.returns-in-Err-Bad-clause-none
returns-in-Err-Bad-clause-none c = let fault = rw c.in-Err-Bad.field-0-is at c.in-Err-Bad.ensures.err in no_revision c.args.body.now fault.broken

pub returns-in_default-clause-none : goal.returns-in_default-clause-none
returns-in_default-clause-none c = other_rest c.args.body.now (revision_spelled c.in-Ok.rev) c.in-Ok.ensures.ok c.in_default.ensures.none
