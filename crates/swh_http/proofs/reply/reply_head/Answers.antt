use Rattle.std.proofs.Common.{refl}
use Rattle.swh_http.specs.Reply.{head_text}
use Rattle.swh_http.proofs.reply.reply_head.Goals as goal

pub returns : goal.returns
unfolding head_text
returns c =
    rw (c.in_ok-extend_from_slice-3.ensures.items, c.in_ok-extend_from_slice-2.ensures.items, c.in_ok-extend_from_slice.ensures.items, c.in_ok-push_length.ensures, c.in_ok-push_status.ensures, c.new-text.ensures.items, c.type_line.ensures, c.closing.ensures, c.as_slice.ensures)
    refl
