use Rattle.std.proofs.Common.{◌≡◌, ◌++◌, ℕ, List, append_assoc}
use Rattle.swh_http.specs.Reply.{status_line}
use Rattle.swh_http.proofs.reply.push_status.Goals as goal

regroup : (t a b c d e : List ℕ) → ((((t ++ a) ++ b) ++ c) ++ d) ++ e ≡ t ++ ((((a ++ b) ++ c) ++ d) ++ e)
regroup t a b c d e = simp append_assoc

pub returns : goal.returns
unfolding status_line
returns c =
    rw (c.in_ok-extend_from_slice-4.ensures.items, c.in_ok-extend_from_slice-3.ensures.items, c.in_ok-extend_from_slice-2.ensures.items, c.in_ok-push_decimal.ensures, c.in_ok-extend_from_slice.ensures.items, c.as_bytes.ensures.value, c.phrase.ensures, c.from.ensures)
    (regroup c.args.text.now.items _ _ _ _ _)
