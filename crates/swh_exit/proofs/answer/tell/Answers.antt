use Rattle.std.proofs.Common.{refl, inl, inr, arith}
use Rattle.swh_exit.specs.Answers.{told_by, last_line_of}
use Rattle.swh_exit.proofs.Told.{some_of_first, some_of_second, both_pieces}
use Rattle.swh_exit.proofs.answer.tell.Goals as goal

pub returns-in_default-clause-told : goal.returns-in_default-clause-told
returns-in_default-clause-told g c =
    inr (record {
      status_is = refl;
      rose = c.in_default.ensures.cause.failed;
      printed = λ told. some_of_first _ _ (last_line_of c.args.answer.now) _ (c.in_default.ensures.bytes told).err;
    })

pub returns-in_default-put_some-clause-told : goal.returns-in_default-put_some-clause-told
returns-in_default-put_some-clause-told g c =
    inr (record {
      status_is = refl;
      rose = rw c.in-Ok.ensures.cause.quiet at c.in_default-put_some.ensures.cause.failed;
      printed = λ told. some_of_second _ (told_by c.args.answer.now) _ _ _ (c.in-Ok.ensures.bytes told).ok (rw c.last_line.ensures at (c.in_default-put_some.ensures.bytes told).err);
    })

pub returns-clause-told : goal.returns-clause-told
returns-clause-told g c =
    inl (record {
      status_is = c.status.ensures;
      printed = λ told. both_pieces _ (told_by c.args.answer.now) (last_line_of c.args.answer.now) _ _ (c.in-Ok.ensures.bytes told).ok (rw c.last_line.ensures at (c.in-Ok-put_some.ensures.bytes told).ok);
    })

pub returns-in_default-clause-later : goal.returns-in_default-clause-later
returns-in_default-clause-later g c = c.in_default.ensures.cause.later

pub returns-in_default-put_some-clause-later : goal.returns-in_default-put_some-clause-later
returns-in_default-put_some-clause-later g c = let same = c.in-Ok.ensures.cause.quiet in let more = c.in_default-put_some.ensures.cause.later in omega (arith, same, more)
