use Rattle.std.proofs.Common.{length}
use Rattle.swh_recovery.proofs.field.+check_fields.Given as goal

abbrev pub decreases-check_fields : goal.decreases-check_fields
decreases-check_fields l = length l.fields.now
