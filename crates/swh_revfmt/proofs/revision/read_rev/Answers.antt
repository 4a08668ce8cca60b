use Rattle.swh_revfmt.proofs.Faults.{gives_rev}
use Rattle.swh_revfmt.proofs.revision.read_rev.Goals as goal

pub returns-clause-only : goal.returns-clause-only
returns-clause-only c = gives_rev c.args.body.now c.read.result c.read.ensures.ok c.read.ensures.err
