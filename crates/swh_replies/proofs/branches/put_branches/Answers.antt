use Rattle.swh_replies.proofs.Listed.{where_ok, one, then}
use Rattle.swh_replies.proofs.branches.put_branches.Goals as goal

pub returns : goal.returns
returns c =
    let opened = one {new = c.begin_object.new.self} c.in_ok-begin_object.ensures.ok c.in_ok-begin_object.ensures.room.0 in
    where_ok c.put_members.result (λ written. then opened written) c.put_members.ensures
