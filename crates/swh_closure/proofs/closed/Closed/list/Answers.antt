use Rattle.std.proofs.Common.{subst}
use Rattle.std.specs.List.Sorted.{IsStrictlySortedBy}
use Rattle.swh_base.specs.Name.{name_cmp}
use Rattle.swh_closure.proofs.Order.{ascends}
use Rattle.swh_closure.proofs.closed.Closed.list.Goals as goal

pub returns-in_err-names-clause-ascending : goal.returns-in_err-names-clause-ascending
returns-in_err-names-clause-ascending c =
    subst (IsStrictlySortedBy name_cmp) c.self.view_is (ascends c.self.inside.names.keys c.len-count.ensures.ordered)

pub returns-clause-ascending : goal.returns-clause-ascending
returns-clause-ascending c =
    subst (IsStrictlySortedBy name_cmp) c.self.view_is (ascends c.self.inside.names.keys c.len-count.ensures.ordered)
