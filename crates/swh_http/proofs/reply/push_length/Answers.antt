use Rattle.std.proofs.Common.{◌≡◌, ◌++◌, ℕ, List, append_assoc}
use Rattle.swh_http.specs.Reply.{length_line}
use Rattle.swh_http.proofs.reply.push_length.Goals as goal

regroup : (t a b c : List ℕ) → ((t ++ a) ++ b) ++ c ≡ t ++ ((a ++ b) ++ c)
regroup t a b c = simp append_assoc

pub returns : goal.returns
unfolding length_line
returns c =
    rw (c.in_ok-extend_from_slice-2.ensures.items, c.in_ok-push_decimal.ensures, c.in_ok-extend_from_slice.ensures.items)
    (regroup c.args.text.now.items _ _ _)
