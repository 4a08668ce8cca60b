use Rattle.std.proofs.Common.{◌≡◌, ◌++◌, ℕ, List, append_assoc}
use Rattle.swh_gen.specs.Stream.{commit_text}
use Rattle.swh_gen.proofs.push_commit.Goals as goal

regroup : (t a b c d e f : List ℕ) → (((((t ++ a) ++ b) ++ c) ++ d) ++ e) ++ f ≡ t ++ (((((a ++ b) ++ c) ++ d) ++ e) ++ f)
regroup t a b c d e f = simp append_assoc

pub returns : goal.returns
unfolding commit_text
returns c =
    rw (c.in_ok-push_data.ensures, c.in_ok-extend_from_slice-3.ensures.items, c.in_ok-push_decimal-2.ensures, c.in_ok-extend_from_slice-2.ensures.items, c.in_ok-push_decimal.ensures, c.in_ok-extend_from_slice.ensures.items)
    (rw c.from.ensures (regroup c.args.text.now.items _ _ _ _ _ _))
