use Rattle.swh_replies.proofs.Listed.{where_ok, one, then}
use Rattle.swh_replies.proofs.members.put_text.Goals as goal

pub returns : goal.returns
returns c =
    let keyed = one {new = c.key.new.self} c.in_ok-key.ensures.ok c.in_ok-key.ensures.room.0 in
    where_ok c.string.result (λ written. then keyed (one {new = c.string.new.self} written c.string.ensures.room.0)) c.string.ensures.ok
