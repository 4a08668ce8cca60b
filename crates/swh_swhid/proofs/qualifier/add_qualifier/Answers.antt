use Rattle.swh_swhid.proofs.KeyWords.{key_adds, value_breaks}
use Rattle.swh_swhid.proofs.qualifier.add_qualifier.Goals as goal

pub returns-in-Ok-add_value-clause-ok : goal.returns-in-Ok-add_value-clause-ok
returns-in-Ok-add_value-clause-ok c =
    key_adds c.args.swhid.now c.add_value.new.swhid c.in-Ok.key c.args.piece.now c.in-Ok.ensures.ok
    (rw (c.behind.ensures, c.key_word-start.ensures) at c.in-Ok-add_value.ensures.ok)

pub returns-in-Err-BadText-clause-err : goal.returns-in-Err-BadText-clause-err
returns-in-Err-BadText-clause-err c =
    rw c.key_word-start.ensures
    (value_breaks c.args.swhid.now c.in-Ok.key c.args.piece.now c.in-Err-BadText.at c.in-Ok.ensures.ok
    (rw (c.behind.ensures, c.key_word-start.ensures) at (rw c.in-Err-BadText.field-0-is at c.in-Err-BadText.ensures.err)))
