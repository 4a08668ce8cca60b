use Rattle.swh_replies.proofs.Listed.{where_ok, one, then}
use Rattle.swh_replies.proofs.members.put_number.Goals as goal

pub returns : goal.returns
returns c =
    let keyed = one {new = c.key.new.self} c.in_ok-key.ensures.ok c.in_ok-key.ensures.room.0 in
    where_ok c.u64.result (λ written. then keyed (one {new = c.u64.new.self} written c.u64.ensures.room.0)) c.u64.ensures.ok
