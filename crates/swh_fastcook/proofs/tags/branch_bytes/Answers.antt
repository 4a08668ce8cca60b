use Rattle.std.proofs.Common.{◌≡◌, ℕ, ◌+◌, length, min, sym, ap, ◌∙◌, arith}
use Rattle.swh_fastcook.proofs.TagMaps.{tag_length}
use Rattle.swh_fastcook.proofs.tags.branch_bytes.Goals as goal

pub returns : goal.returns
returns c =
    let twenty : length c.args.id ≡ 20 = omega arith in
    let sum = c.saturating_add.ensures in
    let is : c.saturating_add.result ≡ min (length c.args.tag.now + 42) 18446744073709551615 = omega (arith, sum, twenty) in
    is ∙ ap (λ (n : ℕ). min n 18446744073709551615) (sym (tag_length c.args.tag.now c.args.id twenty))
