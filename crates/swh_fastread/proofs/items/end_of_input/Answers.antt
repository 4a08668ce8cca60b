use Rattle.std.proofs.Common.{arith, ap, sym, subst, ◌∙◌, length, Bool}
use Rattle.swh_fastread.proofs.ReadItems.{empty, input_ends, end_explains, held_left}
use Rattle.swh_fastread.specs.Steps.{EndsHere}
use Rattle.swh_fastread.proofs.items.end_of_input.Goals as goal

pub returns-then-promised-clause-fails : goal.returns-then-promised-clause-fails
returns-then-promised-clause-fails g c = λ told. end_explains c.args.rows.now c.args.promised c.end.result (c.requires.end told) c.end.ensures (λ e. c.if-promised.true)

pub returns-then-at-end-clause-fails : goal.returns-then-at-end-clause-fails
returns-then-at-end-clause-fails g c = λ told.
    let ends = c.requires.end told in
    end_explains c.args.rows.now c.args.promised c.end.result ends c.end.ensures (λ e. absurd (omega (arith, c.if-at-end.true, c.at.ensures, c.end-2.ensures, ap length (sym (held_left c.args.rows.now ends) ∙ e))))

pub returns-clause-item : goal.returns-clause-item
returns-clause-item g c = λ told.
    let a = c.args.rows.now in
    let ends = c.requires.end told in
    let nothing = held_left a ends ∙ empty a.held (omega (arith, c.if-at-end.false, c.at.ensures, c.end-2.ensures)) in
    subst (λ (b : Bool). EndsHere a a b) (sym c.if-promised.false) (input_ends a ends nothing)
