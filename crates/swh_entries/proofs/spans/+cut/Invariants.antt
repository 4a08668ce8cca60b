use Rattle.std.proofs.Common.{length}
use Rattle.swh_entries.proofs.spans.+cut.Given as goal

abbrev pub decreases-cut : goal.decreases-cut
decreases-cut l = length l.entries.now
