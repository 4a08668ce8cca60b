use Rattle.std.proofs.Common.{inl}
use Rattle.swh_batchread.proofs.NamesKnown.{lacks_kid}
use Rattle.swh_batchread.proofs.names.lacking.Goals as goal

pub returns-in-Some-clause-some : goal.returns-in-Some-clause-some
returns-in-Some-clause-some c = λ objects are. inl c.in-Some.ensures.some

pub returns-in-Some-lacking_name-clause-some : goal.returns-in-Some-lacking_name-clause-some
returns-in-Some-lacking_name-clause-some c = λ objects are. lacks_kid c.args.known.now.names c.args.ids.now objects c.as_slice.result.now c.args.known.now.kids.items c.in-Some-lacking_name.kid c.as_slice.ensures.value are c.in_default.ensures.none c.in-Some-lacking_name.ensures.some
