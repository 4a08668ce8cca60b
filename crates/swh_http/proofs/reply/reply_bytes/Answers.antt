use Rattle.swh_http.proofs.reply.reply_bytes.Goals as goal

pub returns : goal.returns
returns c =
    rw (c.in_ok-extend_from_slice.ensures.items, c.in_ok-text.ensures, c.as_slice.ensures)
