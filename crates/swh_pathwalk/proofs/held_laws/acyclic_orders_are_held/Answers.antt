use Rattle.swh_pathwalk.proofs.Preceding.{all_preceded}
use Rattle.swh_pathwalk.proofs.held_laws.acyclic_orders_are_held.Goals as goal

pub returns : goal.returns
returns c children_of root order is acyclic = record {
  some = record { root = root; is = is };
  preceded = all_preceded children_of root order is acyclic;
}
