use Rattle.swh_revfmt.proofs.Faults.{gives_rel}
use Rattle.swh_revfmt.proofs.release.read_rel.Goals as goal

pub returns-clause-only : goal.returns-clause-only
returns-clause-only c = gives_rel c.args.body.now c.read.result c.read.ensures.ok c.read.ensures.err
