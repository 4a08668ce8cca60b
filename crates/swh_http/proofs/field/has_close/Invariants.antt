use Rattle.std.proofs.Common.{◌≡◌, length}
use Rattle.swh_http.specs.Field.{has_close}
use Rattle.swh_http.proofs.field.has_close.Given as goal

abbrev pub invariant-items : goal.invariant-items
invariant-items l = has_close l.rest ≡ has_close l.value

abbrev pub decreases-items : goal.decreases-items
decreases-items l = length l.rest
