use Rattle.std.proofs.Common.{rules, arith, ◌≡◌, ◌<◌, length, length-append, ap, [], ◌∷◌}
use Rattle.swh_base.specs.Limits.{body_limit}
use Rattle.swh_base.specs.declared.visit.Which.TheVariants.{Body}
use Rattle.swh_fastgrammar.specs.Grammar.{contents}
use Rattle.swh_fastrows.proofs.NextLines.{lacks_end, lacks_contents, lacks_data, ok_before, err_before}
use Rattle.swh_fastrows.proofs.data_rows.data.Goals as goal

pub returns-then-not-branch-clause-fails : goal.returns-then-not-branch-clause-fails
returns-then-not-branch-clause-fails g c = λ told.
    let l = lacks_end contents c.args.rows.now c.peek.new.rows (c.in_ok-peek.ensures.took told) (c.in_ok-peek.ensures.end told c.if-not-branch.true) in
    lacks_data c.args.rows.now c.peek.new.rows c.refusal.result l (c.refusal.ensures.refusal told l.counts)

pub delimited_data-requires-clause-short : goal.delimited_data-requires-clause-short
delimited_data-requires-clause-short g c κs within =
    let next = c.in_ok-peek.ensures.line c.if-not-branch.false in
    let short = next.short in
    let word : c.as_slice.result.now ≡ c.in-Delimited.word.now = search rules in
    let line = c.in-Delimited.ensures.0 in
    omega (arith, short, ap length word, ap length c.line.ensures, ap length line, length-append c.line.result.now (10 ∷ []))

pub returns-in-Counted-clause-data : goal.returns-in-Counted-clause-data
returns-in-Counted-clause-data g c = λ told. ok_before c.args.rows.now c.peek.new.rows c.counted_data.new.rows c.counted_data.result (c.in_ok-peek.ensures.took told) (c.counted_data.ensures.data told)

pub returns-in-Counted-clause-fails : goal.returns-in-Counted-clause-fails
returns-in-Counted-clause-fails g c = λ told. err_before c.args.rows.now c.peek.new.rows c.counted_data.result (c.in_ok-peek.ensures.took told) (c.counted_data.ensures.fails told)

pub returns-in_ok-word-in-Delimited-clause-data : goal.returns-in_ok-word-in-Delimited-clause-data
returns-in_ok-word-in-Delimited-clause-data g c = λ told. ok_before c.args.rows.now c.peek.new.rows c.delimited_data.new.rows c.delimited_data.result (c.in_ok-peek.ensures.took told) (c.delimited_data.ensures.data told)

pub returns-in_ok-word-in-Delimited-clause-fails : goal.returns-in_ok-word-in-Delimited-clause-fails
returns-in_ok-word-in-Delimited-clause-fails g c = λ told. err_before c.args.rows.now c.peek.new.rows c.delimited_data.result (c.in_ok-peek.ensures.took told) (c.delimited_data.ensures.fails told)

pub returns-in-No-clause-fails : goal.returns-in-No-clause-fails
returns-in-No-clause-fails g c = λ told.
    let none = c.in-No.ensures in
    let l = lacks_contents c.args.rows.now c.peek.new.rows c.line.result.now (c.in_ok-peek.ensures.took told) (c.in_ok-peek.ensures.line c.if-not-branch.false) c.line.ensures none in
    lacks_data c.args.rows.now c.peek.new.rows c.refusal-in-No.result l (c.refusal-in-No.ensures.refusal told l.counts)

pub counted_data-requires-clause-fits : goal.counted_data-requires-clause-fits
counted_data-requires-clause-fits g c κs within =
    let next = c.in_ok-peek.ensures.line c.if-not-branch.false in
    let opens = c.in-Counted.ensures in
    let fits : body_limit < c.in-Counted.count → ⊥ = λ above. next.fits c.line.result.now c.line.ensures Body c.in-Counted.count (opens.0, opens.1, opens.2, above) in
    omega (arith, fits)
