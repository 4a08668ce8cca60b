use Rattle.swh_snpfmt.proofs.Exact.{gives}
use Rattle.swh_snpfmt.proofs.reading.read_snp.Goals as goal

pub returns-clause-only : goal.returns-clause-only
returns-clause-only c = gives c.args.body.now c.read.result c.read.ensures.ok c.read.ensures.err
