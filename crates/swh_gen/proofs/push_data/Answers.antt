use Rattle.std.proofs.Common.{◌≡◌, ◌+◌, ◌++◌, ℕ, List, decimal, append_assoc, ◌∙◌}
use Rattle.swh_gen.specs.Stream.{data_text}
use Rattle.swh_gen.proofs.push_data.Goals as goal

regroup : (t a b c d : List ℕ) → (((t ++ a) ++ b) ++ c) ++ d ≡ t ++ (((a ++ b) ++ c) ++ d)
regroup t a b c d = simp append_assoc

pub returns : goal.returns
unfolding data_text
returns c =
    let digits : c.as_bytes-digits.result.now ≡ decimal c.args.number = c.as_bytes-digits.ensures.value ∙ c.format.ensures.text in
    rw (c.in_ok-extend_from_slice-3.ensures.items, c.in_ok-extend_from_slice-2.ensures.items, c.in_ok-extend_from_slice.ensures.items, c.in_ok-push_decimal.ensures, digits)
    (regroup c.args.text.now.items _ _ _ _)
