use Rattle.swh_replies.proofs.Listed.{where_ok, one, then}
use Rattle.swh_replies.proofs.branches.put_branch.Goals as goal

pub returns : goal.returns
returns c =
    let keyed = one {new = c.key.new.self} c.in_ok-key.ensures.ok c.in_ok-key.ensures.room.0 in
    where_ok c.put_target.result (λ written. then keyed written) c.put_target.ensures
