use Rattle.std.proofs.Common.{rules, codes, refl, subst, sym}
use Rattle.swh_fastgrammar.specs.Grammar.{anything, oid}
use Rattle.swh_fastrows.specs.Places.{ReaderState, Part}
use Rattle.swh_fastrows.proofs.NextLines.{lacks_end, lacks_line, part_line}
use Rattle.swh_fastrows.proofs.optional.skip_oid.Goals as goal

pub returns-then-not-branch-clause-part : goal.returns-then-not-branch-clause-part
returns-then-not-branch-clause-part g c = λ told. lacks_end oid c.args.rows.now c.peek.new.rows (c.in_ok-peek.ensures.took told) (c.in_ok-peek.ensures.end told (search rules))

pub returns-clause-part : goal.returns-clause-part
returns-clause-part g c = λ told.
    let some = c.in-Some.ensures.some in
    subst (λ (p : ReaderState). Part oid c.args.rows.now p tt) (sym c.take.ensures)
    (part_line (codes "original-oid ") anything c.args.rows.now c.peek.new.rows c.line.result.now c.in-Some.field-0.now tt (c.in_ok-peek.ensures.took told) (c.in_ok-peek.ensures.line c.if-not-branch.false) c.line.ensures refl some tt)

pub returns-in_default-clause-part : goal.returns-in_default-clause-part
returns-in_default-clause-part g c = λ told. lacks_line (codes "original-oid ") anything c.args.rows.now c.peek.new.rows c.line.result.now (c.in_ok-peek.ensures.took told) (c.in_ok-peek.ensures.line c.if-not-branch.false) c.line.ensures (λ text x e h. c.in_default.ensures.none text e)
