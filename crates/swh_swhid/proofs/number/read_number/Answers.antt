use Rattle.std.proofs.Common.{arith, subst}
use Rattle.swh_swhid.specs.Front.{BreaksAt}
use Rattle.swh_swhid.specs.Number.{HasNumber}
use Rattle.swh_swhid.proofs.Ranges.{number_breaks, no_empty_number, number_low, number_read}
use Rattle.swh_swhid.proofs.number.read_number.Goals as goal

pub returns-then-digits-text-clause-err : goal.returns-then-digits-text-clause-err
returns-then-digits-text-clause-err c = number_breaks c.args.least c.args.text.now _ _ c.requires c.digits_front-digits.ensures (λ e. absurd (omega arith))

pub returns-then-digits-eq0-clause-err : goal.returns-then-digits-eq0-clause-err
returns-then-digits-eq0-clause-err c =
    let none = c.if-digits-eq0.true in
    subst (BreaksAt (HasNumber c.args.least) c.args.text.now) none (number_breaks c.args.least c.args.text.now _ _ c.requires c.digits_front-digits.ensures (λ e. no_empty_number c.args.least c.args.text.now (omega arith)))

pub returns-then-digits-least-clause-err : goal.returns-then-digits-least-clause-err
returns-then-digits-least-clause-err c = number_breaks c.args.least c.args.text.now _ _ c.requires c.digits_front-digits.ensures (λ e. number_low c.args.least c.args.text.now _ _ c.digits_front-digits.ensures e (omega arith))

pub returns-clause-ok : goal.returns-clause-ok
returns-clause-ok c = let f = c.digits_front-digits.ensures in let within = f.within in number_read c.args.least c.args.text.now _ _ f (omega arith) (omega arith) (omega arith)
