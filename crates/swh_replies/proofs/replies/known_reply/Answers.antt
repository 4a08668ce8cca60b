use Rattle.swh_replies.proofs.Values.{known-no_float}
use Rattle.swh_replies.proofs.replies.known_reply.Goals as goal

pub json_reply-requires : goal.json_reply-requires
json_reply-requires g c = rw c.in_ok-value.ensures (known-no_float (g.L.Look.archive c.args.look.now).bodies c.as_slice.result.now)
