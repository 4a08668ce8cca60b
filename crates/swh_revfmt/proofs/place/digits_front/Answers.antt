use Rattle.std.proofs.Common.{◌≡◌, true, sym, ◌∙◌, arith}
use Rattle.std.proofs.lemmas.List.Elements.{All-more}
use Rattle.swh_base.specs.Name.{is_lower_hex_digit}
use Rattle.swh_revfmt.proofs.place.digits_front.Goals as goal

pub loop-i-preserved : goal.loop-i-preserved
loop-i-preserved c =
    let digit = sym c.is_lower_hex_digit.ensures ∙ c.if-not-is_lower_hex_digit.false in
    record { few = omega arith; digits = All-more (λ x. is_lower_hex_digit x ≡ true) c.args.bytes.now c.loop-i.i 0 (omega arith) c.loop-i.invariant.digits digit }
