use Rattle.std.specs.Rc.{rc_value}
use Rattle.swh_entries.specs.Spans.{weight}
use Rattle.swh_entries.proofs.spans.+with.Given as goal

abbrev pub decreases-with : goal.decreases-with
decreases-with l = weight (rc_value l.span)
