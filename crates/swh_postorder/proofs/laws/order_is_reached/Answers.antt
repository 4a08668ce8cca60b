use Rattle.swh_postorder.proofs.Orders.{order_are, order_closed, order_once}
use Rattle.swh_postorder.proofs.laws.order_is_reached.Goals as goal

pub returns-clause-are : goal.returns-clause-are
returns-clause-are c = order_are

pub returns-clause-once : goal.returns-clause-once
returns-clause-once c = order_once

pub returns-clause-closed : goal.returns-clause-closed
returns-clause-closed c = order_closed
