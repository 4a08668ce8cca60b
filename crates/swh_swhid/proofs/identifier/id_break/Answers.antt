use Rattle.std.proofs.Common.{◌≡◌, inl, inr, true, sym, ◌∙◌, length, subst, arith}
use Rattle.swh_base.specs.Name.{is_lower_hex_digit, IsIdText}
use Rattle.swh_swhid.specs.Front.{BreaksAt}
use Rattle.std.proofs.lemmas.List.Elements.{All-more}
use Rattle.swh_swhid.proofs.Ids.{id_breaks}
use Rattle.swh_swhid.proofs.identifier.id_break.Goals as goal

pub returns-then-i-eq40 : goal.returns-then-i-eq40
returns-then-i-eq40 c = id_breaks c.args.text.now c.loop-i.i c.loop-i.invariant.few (omega arith) c.loop-i.invariant.digits (λ _. inl c.if-i-eq40.true) c.requires

pub returns-then-not-is_lower_hex_digit : goal.returns-then-not-is_lower_hex_digit
returns-then-not-is_lower_hex_digit c = id_breaks c.args.text.now c.loop-i.i c.loop-i.invariant.few (omega arith) c.loop-i.invariant.digits (λ _. inr (sym c.is_lower_hex_digit.ensures ∙ c.if-not-is_lower_hex_digit.true)) c.requires

pub loop-i-preserved : goal.loop-i-preserved
loop-i-preserved c = record { few = omega arith; digits = All-more (λ x. is_lower_hex_digit x ≡ true) c.args.text.now c.loop-i.i 0 (omega arith) c.loop-i.invariant.digits (sym c.is_lower_hex_digit.ensures ∙ c.if-not-is_lower_hex_digit.false) }

pub returns : goal.returns
returns c =
    let top : c.loop-i.i ≡ length c.args.text.now = omega arith in
    subst (BreaksAt IsIdText c.args.text.now) top (id_breaks c.args.text.now c.loop-i.i c.loop-i.invariant.few (omega arith) c.loop-i.invariant.digits (λ within. absurd (omega arith)) c.requires)
