use Rattle.std.specs.Rc.{rc_value}
use Rattle.swh_entries.specs.Spans.{weight}
use Rattle.swh_entries.proofs.spans.+without.Given as goal

abbrev pub decreases-without : goal.decreases-without
decreases-without l = weight (rc_value l.span)
