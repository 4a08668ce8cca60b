use Rattle.swh_replies.proofs.Listed.{where_ok, one, then}
use Rattle.swh_replies.proofs.branches.put_words.Goals as goal

pub returns : goal.returns
returns c =
    let opened = one {new = c.begin_object.new.self} c.in_ok-begin_object.ensures.ok c.in_ok-begin_object.ensures.room.0 in
    where_ok c.end_object.result
    (λ closed. then opened (then c.in_ok-put_text.ensures (then c.in_ok-put_text-2.ensures (one {new = c.end_object.new.self} closed c.end_object.ensures.room.0)))) c.end_object.ensures.ok
