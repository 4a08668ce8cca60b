use Rattle.std.proofs.Common.{◌≡◌, ◌≤◌, ◌-◌, List, ℕ, length, drop, sym, ap, ◌∙◌, arith}
use Rattle.std.proofs.lemmas.List.{length-take}
use Rattle.swh_recovery.specs.Reading.{window}
use Rattle.swh_recovery.proofs.PieceLemmas.{held_is}
use Rattle.swh_recovery.proofs.piece.held.Goals as goal

pub returns-clause-stand : goal.returns-clause-stand
returns-clause-stand c seen piece =
    let bytes = c.as_slice-bytes.result.now in
    let same : bytes ≡ c.args.piece.now.bytes.items = c.as_slice-bytes.ensures.value in
    let is : bytes ≡ window seen c.args.piece.now.begin (length bytes) = same ∙ piece.is ∙ ap (λ (l : List ℕ). window seen c.args.piece.now.begin (length l)) (sym same) in
    let le = c.if-at-piece.false in
    let less = c.if-at-piece-2.false in
    let few = c.min-count.ensures in
    let taken = length-take (length bytes - (c.args.at - c.args.piece.now.begin)) (drop (c.args.at - c.args.piece.now.begin) bytes) in
    let few_enough : c.min-count.result ≤ length bytes - (c.args.at - c.args.piece.now.begin) = omega (arith, few, taken) in
    held_is seen bytes c.args.piece.now.begin c.args.at c.min-count.result (omega (arith, le)) (omega (arith, less)) few_enough is
