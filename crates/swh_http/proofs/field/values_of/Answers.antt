use Rattle.std.proofs.Common.{rules, sym}
use Rattle.swh_http.specs.Field.{values}
use Rattle.swh_http.proofs.Fields.{values-next}
use Rattle.swh_http.proofs.field.values_of.Goals as goal

pub loop-header-init : goal.loop-header-init
unfolding values
loop-header-init c = search rules

pub loop-header-preserved : goal.loop-header-preserved
loop-header-preserved c =
    rw (c.in_ok-push_named.ensures, c.loop-header.invariant) (sym (values-next _ _ _ _ _ c.loop-header-test.true))
