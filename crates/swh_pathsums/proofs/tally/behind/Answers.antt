use Rattle.std.proofs.Common.{◌*◌, ◌+◌, inl, refl}
use Rattle.swh_pathsums.proofs.RowSums.{tallies_behind}
use Rattle.swh_pathsums.proofs.tally.behind.Goals as goal

pub returns : goal.returns
returns c weigh name rows spelling is =
    tallies_behind weigh name rows c.args.folder c.args.inner _ spelling is refl refl c.quoted_behind.ensures
    (λ m n k paths bytes spelled.
    c.plus-2.ensures (m * (n + 1)) k (c.times.ensures m (n + 1) paths (c.plus.ensures n 1 bytes (inl refl))) spelled)
