use Rattle.std.proofs.Common.{sym, subst}
use Rattle.swh_fastgrammar.specs.declared.command.At.{At}
use Rattle.swh_fastgrammar.specs.declared.command.Commitish.{Commitish}
use Rattle.swh_fastgrammar.specs.declared.command.Start.TheVariants.{NoTip, Of}
use Rattle.swh_fastrows.specs.Explains.{Reads}
use Rattle.swh_fastgrammar.specs.Grammar.{target}
use Rattle.swh_fastrows.specs.Places.{ReaderState}
use Rattle.swh_fastlines.proofs.LongRefs.{long_names_none}
use Rattle.swh_fastread.proofs.Resets.{absent_end, absent_line, no_tip, some_tip, never_target, not_so, so}
use Rattle.swh_fastread.proofs.reset.reset_target.Goals as goal

pub returns-then-not-branch-clause-target : goal.returns-then-not-branch-clause-target
returns-then-not-branch-clause-target g c = λ told. absent_end c.args.rows.now c.next_line.new.rows (c.in_ok-next_line.ensures.took told) (c.in_ok-next_line.ensures.end told c.if-not-branch.true)

pub returns-in_default-clause-target : goal.returns-in_default-clause-target
returns-in_default-clause-target g c = λ told. absent_line c.args.rows.now c.next_line.new.rows c.line.result.now (c.in_ok-next_line.ensures.took told) (c.in_ok-next_line.ensures.line c.if-not-branch.false) c.line.ensures (λ said e. absurd (c.in_default.ensures.none said e))

pub returns-then-is_zeros-clause-target : goal.returns-then-is_zeros-clause-target
returns-then-is_zeros-clause-target g c = λ told.
    subst (λ (p : ReaderState). Reads target c.args.rows.now p NoTip) (sym c.take.ensures)
    (no_tip c.args.rows.now c.next_line.new.rows c.line.result.now c.in-Some.text.now (c.in_ok-next_line.ensures.took told) (c.in_ok-next_line.ensures.line c.if-not-branch.false) c.line.ensures c.in-Some.ensures.some (so c.is_zeros.result c.is_zeros.ensures.0 c.if-is_zeros.true))

pub returns-in-Over-clause-target : goal.returns-in-Over-clause-target
returns-in-Over-clause-target g c = λ told.
    let over = rw c.in-Over.is at c.in_ok-commit.ensures in
    absent_line c.args.rows.now c.next_line.new.rows c.line.result.now (c.in_ok-next_line.ensures.took told) (c.in_ok-next_line.ensures.line c.if-not-branch.false) c.line.ensures
    (never_target c.line.result.now c.in-Some.text.now c.in-Some.ensures.some (λ x h. long_names_none c.in-Some.text.now c.in-Over.field-0 x over h) (not_so c.is_zeros.result c.is_zeros.ensures.1 c.if-is_zeros.false))

pub returns-in-No-clause-target : goal.returns-in-No-clause-target
returns-in-No-clause-target g c = λ told.
    let none = rw c.in-No.is at c.in_ok-commit.ensures in
    absent_line c.args.rows.now c.next_line.new.rows c.line.result.now (c.in_ok-next_line.ensures.took told) (c.in_ok-next_line.ensures.line c.if-not-branch.false) c.line.ensures
    (never_target c.line.result.now c.in-Some.text.now c.in-Some.ensures.some none.0 (not_so c.is_zeros.result c.is_zeros.ensures.1 c.if-is_zeros.false))

pub returns-clause-target : goal.returns-clause-target
returns-clause-target g c = λ told.
    let is = rw c.in-Is.is at c.in_ok-commit.ensures in
    let v : At Commitish = record { at = c.at-at.result; it = c.in-Is.commit } in
    subst (λ (p : ReaderState). Reads target c.args.rows.now p (Of v)) (sym c.take-2.ensures)
    (some_tip c.args.rows.now c.next_line.new.rows c.line.result.now c.in-Some.text.now v (c.in_ok-next_line.ensures.took told) (c.in_ok-next_line.ensures.line c.if-not-branch.false) c.line.ensures c.in-Some.ensures.some is.0 (not_so c.is_zeros.result c.is_zeros.ensures.1 c.if-is_zeros.false) c.at-at.ensures)
