use Rattle.std.proofs.Common.{ℕ, List, Contains, sym, subst}
use Rattle.swh_base.proofs.Middle.{in_middle}
use Rattle.swh_fastlines.proofs.line_words.is_encoding.Goals as goal

pub returns-in-Some : goal.returns-in-Some
returns-in-Some c =
    let cut = c.in-Some.ensures.some in (
      λ t. absurd cc,
      λ h. absurd (h.2 (subst (λ (t : List ℕ). Contains t 0) (sym cut.1) (in_middle c.in-Some.field-0.0.now c.in-Some.field-0.1.now 0))),
    )
