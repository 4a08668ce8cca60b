use Rattle.swh_base.proofs.Children.{one_list}
use Rattle.swh_base.proofs.laws.one_list_of_children.Goals as goal

pub returns : goal.returns
returns c = one_list
