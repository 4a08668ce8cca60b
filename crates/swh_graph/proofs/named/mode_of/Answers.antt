use Rattle.std.proofs.Common.{rules, ◌≡◌, inl, inr, true, false, refl, sym, ap, ◌∙◌, codes, decimal}
use Rattle.std.proofs.lemmas.Bool.Decides.{Decides-eqb}
use Rattle.std.proofs.lemmas.Slice.Eq.{slice_eq-Decides}
use Rattle.swh_dirfmt.proofs.Modes.{decimal-100644, decimal-100755, decimal-120000, decimal-40000}
use Rattle.swh_graph.proofs.Nameds.{one_mode}
use Rattle.swh_graph.proofs.named.mode_of.Goals as goal

pub returns-then-eq : goal.returns-then-eq
returns-then-eq c mode is digits =
    let text : c.args.digits.now ≡ codes "100644" = search rules in one_mode 100644 mode c.args.digits.now (inl refl) is (text ∙ sym decimal-100644) digits

pub returns-then-eq-2 : goal.returns-then-eq-2
returns-then-eq-2 c mode is digits =
    let text : c.args.digits.now ≡ codes "100755" = search rules in one_mode 100755 mode c.args.digits.now (inr (inl refl)) is (text ∙ sym decimal-100755) digits

pub returns-then-eq-3 : goal.returns-then-eq-3
returns-then-eq-3 c mode is digits =
    let text : c.args.digits.now ≡ codes "120000" = search rules in one_mode 120000 mode c.args.digits.now (inr (inr (inl refl))) is (text ∙ sym decimal-120000) digits

pub returns-then-eq-4 : goal.returns-then-eq-4
returns-then-eq-4 c mode is digits =
    let text : c.args.digits.now ≡ codes "40000" = search rules in one_mode 40000 mode c.args.digits.now (inr (inr (inr (inl refl)))) is (text ∙ sym decimal-40000) digits

pub returns-else-eq-4 : goal.returns-else-eq-4
returns-else-eq-4 c mode is digits =
    let file : c.as_slice.result.now ≡ codes "100644" = search rules in
    let program : c.as_slice-else-eq.result.now ≡ codes "100755" = search rules in
    let link : c.as_slice-else-eq-2.result.now ≡ codes "120000" = search rules in
    let folder : c.as_slice-else-eq-3.result.now ≡ codes "40000" = search rules in
    elim is [
      | inl e ↦
          let t : false ≡ true = sym c.if-eq.false ∙ (slice_eq-Decides Decides-eqb _ _ _ c.eq.ensures).1 (digits ∙ ap decimal e ∙ decimal-100644 ∙ sym file) in absurd (cc)
      | inr (inl e) ↦
          let t : false ≡ true = sym c.if-eq-2.false ∙ (slice_eq-Decides Decides-eqb _ _ _ c.eq-else-eq.ensures).1 (digits ∙ ap decimal e ∙ decimal-100755 ∙ sym program) in absurd (cc)
      | inr (inr (inl e)) ↦
          let t : false ≡ true = sym c.if-eq-3.false ∙ (slice_eq-Decides Decides-eqb _ _ _ c.eq-else-eq-2.ensures).1 (digits ∙ ap decimal e ∙ decimal-120000 ∙ sym link) in absurd (cc)
      | inr (inr (inr (inl e))) ↦
          let t : false ≡ true = sym c.if-eq-4.false ∙ (slice_eq-Decides Decides-eqb _ _ _ c.eq-else-eq-3.ensures).1 (digits ∙ ap decimal e ∙ decimal-40000 ∙ sym folder) in absurd (cc)
      | inr (inr (inr (inr e))) ↦ sym e
    ]
