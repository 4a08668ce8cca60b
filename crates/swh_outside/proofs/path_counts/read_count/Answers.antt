use Rattle.std.proofs.Common.{sym}
use Rattle.swh_outside.specs.Counts.{is_of}
use Rattle.swh_outside.specs.declared.path_counts.PathCount.{PathCount}
use Rattle.swh_outside.proofs.FirstsLaws.{first_of, first_or-at}
use Rattle.swh_outside.proofs.path_counts.read_count.Goals as goal

pub returns : goal.returns
returns c others =
    let z = c.index-counts-i.result in
    let first = first_of (is_of c.args.path.now) c.args.counts.now c.args.i z c.requires.found c.requires.inside in
    sym (first_or-at (is_of c.args.path.now) (λ (count : PathCount). count.faults) others c.args.counts.now c.args.i z first)
