use Rattle.std.proofs.Common.{◌∙◌}
use Rattle.swh_base.specs.Snapshot.{branch_child}
use Rattle.swh_snpfmt.specs.Branches.{branch_of, branches_in_body}
use Rattle.swh_object.proofs.Gathered.{filter_map-map}
use Rattle.swh_object.proofs.children.snapshot_children.Goals as goal

pub returns-in_ok-children_of_branches-in-Ok-clause-ok :
    goal.returns-in_ok-children_of_branches-in-Ok-clause-ok
returns-in_ok-children_of_branches-in-Ok-clause-ok c =
    let gathered = rw c.deref.ensures.value at c.in_ok-children_of_branches-in-Ok.ensures in
    record {
      branches = branches_in_body c.in-Ok.branches.items;
      is = c.in-Ok.ensures.ok;
      kids = gathered ∙ filter_map-map branch_child branch_of c.in-Ok.branches.items;
    }
