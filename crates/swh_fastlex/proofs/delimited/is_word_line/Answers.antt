use Rattle.std.proofs.Common.{rules, ◌≡◌, ◌++◌, ◌∷◌, [], IsTrue, List, ℕ, sym, ap, ◌∙◌}
use Rattle.swh_fastlex.proofs.DelimitedLines.{same_rest}
use Rattle.swh_fastlex.proofs.delimited.is_word_line.Goals as goal

pub returns : goal.returns
returns c =
    let up : IsTrue c.eq.result → c.in-Some.rest.now ≡ 10 ∷ [] = search rules in
    let down : c.in-Some.rest.now ≡ 10 ∷ [] → IsTrue c.eq.result = search rules in (
      λ t. c.in-Some.ensures.some ∙ ap (λ (x : List ℕ). c.args.word.now ++ x) (up t),
      λ e. down (same_rest c.args.word.now c.in-Some.rest.now (10 ∷ []) (sym c.in-Some.ensures.some ∙ e)),
    )
