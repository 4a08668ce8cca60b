use Rattle.std.proofs.Common.{◌≡◌, length}
use Rattle.httparse.specs.Grammar.{skip_ows}
use Rattle.swh_http.proofs.field.after_ows.Given as goal

abbrev pub invariant-bytes : goal.invariant-bytes
invariant-bytes l = skip_ows l.rest ≡ skip_ows l.text

abbrev pub decreases-bytes : goal.decreases-bytes
decreases-bytes l = length l.rest
