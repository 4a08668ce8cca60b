use Rattle.std.specs.Rc.{rc_value}
use Rattle.swh_entries.specs.Spans.{weight}
use Rattle.swh_entries.proofs.spans.+put_in_place.Given as goal

abbrev pub decreases-put_in_place : goal.decreases-put_in_place
decreases-put_in_place l = weight (rc_value l.span.now)
