-- Data that a line opens.
use Rattle.std.proofs.Common.{◌≡◌, ℕ, inl, inr, List, ◌∷◌, ◌++◌, length, Contains, sym, ◌∙◌, subst, codes}
use Rattle.swh_base.proofs.Middle.{in_middle}
use Rattle.swh_fastgrammar.specs.Row.{Opens}
use Rattle.swh_fastgrammar.proofs.Rows.{same_tail, no_angle}

-- No line has an LF in the delimiter that it names.
pub no_feed_word : (word a b : List ℕ) → word ≡ a ++ 10 ∷ b → Opens (codes "data <<" ++ word) → ⊥
no_feed_word word a b e (raw, bytes, next, inl d) = no_angle d.text (60 ∷ word) (length bytes) d.number (sym (same_tail (codes "data ") (codes "<<" ++ word) d.text d.line))
no_feed_word word a b e (raw, bytes, next, inr d) =
    let same : word ≡ d.word = same_tail (codes "data <<") word d.word d.line in
    d.one_line (subst (λ (t : List ℕ). Contains t 10) (sym e ∙ same) (in_middle a b 10))
