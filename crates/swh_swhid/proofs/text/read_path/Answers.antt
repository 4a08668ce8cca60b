use Rattle.std.proofs.Common.{◌≢◌, ◌∙◌, sym, length, arith}
use Rattle.std.proofs.lemmas.Bool.{eqb-true, eqb-false}
use Rattle.swh_swhid.proofs.Texts.{slash_breaks, path_breaks, path_read, empty_path}
use Rattle.swh_swhid.proofs.text.read_path.Goals as goal

pub returns-then-is_empty-clause-err : goal.returns-then-is_empty-clause-err
returns-then-is_empty-clause-err c = empty_path c.args.text.now (eqb-true (length c.args.text.now) 0 (sym c.is_empty.ensures ∙ c.if-is_empty.true))

pub returns-then-text-ne47-clause-err : goal.returns-then-text-ne47-clause-err
returns-then-text-ne47-clause-err c = slash_breaks c.args.text.now c.if-text-ne47.true

pub returns-in-Ok-clause-ok : goal.returns-in-Ok-clause-ok
returns-in-Ok-clause-ok c =
    let some : length c.args.text.now ≢ 0 = eqb-false (length c.args.text.now) 0 (sym c.is_empty.ensures ∙ c.if-is_empty.false) in
    path_read c.args.text.now (omega arith) c.if-text-ne47.false (rw c.behind.ensures at c.in-Ok.ensures.ok)

pub returns-in-Err-clause-err : goal.returns-in-Err-clause-err
returns-in-Err-clause-err c =
    let some : length c.args.text.now ≢ 0 = eqb-false (length c.args.text.now) 0 (sym c.is_empty.ensures ∙ c.if-is_empty.false) in
    path_breaks c.args.text.now c.in-Err.at (omega arith) c.if-text-ne47.false (rw c.behind.ensures at c.in-Err.ensures.err)
