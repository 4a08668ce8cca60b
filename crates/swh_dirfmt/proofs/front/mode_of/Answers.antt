use Rattle.std.proofs.Common.{rules, ◌≡◌, codes, inl, inr, refl, sym, ◌∙◌}
use Rattle.swh_dirfmt.proofs.Modes.{decimal-100644, decimal-100755, decimal-120000, decimal-40000, decimal-160000}
use Rattle.swh_dirfmt.proofs.front.mode_of.Goals as goal

pub returns-then-eq-clause-some : goal.returns-then-eq-clause-some
returns-then-eq-clause-some c = let text : c.args.digits.now ≡ codes "100644" = search rules in (inl refl, text ∙ sym decimal-100644)

pub returns-then-eq-2-clause-some : goal.returns-then-eq-2-clause-some
returns-then-eq-2-clause-some c = let text : c.args.digits.now ≡ codes "100755" = search rules in (inr (inl refl), text ∙ sym decimal-100755)

pub returns-then-eq-3-clause-some : goal.returns-then-eq-3-clause-some
returns-then-eq-3-clause-some c = let text : c.args.digits.now ≡ codes "120000" = search rules in (inr (inr (inl refl)), text ∙ sym decimal-120000)

pub returns-then-eq-4-clause-some : goal.returns-then-eq-4-clause-some
returns-then-eq-4-clause-some c = let text : c.args.digits.now ≡ codes "40000" = search rules in (inr (inr (inr (inl refl))), text ∙ sym decimal-40000)

pub returns-then-eq-5-clause-some : goal.returns-then-eq-5-clause-some
returns-then-eq-5-clause-some c = let text : c.args.digits.now ≡ codes "160000" = search rules in (inr (inr (inr (inr refl))), text ∙ sym decimal-160000)
