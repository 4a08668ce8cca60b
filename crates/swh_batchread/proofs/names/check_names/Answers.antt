use Rattle.swh_dedup.specs.Whole.{names_of}
use Rattle.swh_batchread.proofs.NamesKnown.{kids_each, lacks, may_lack, names_known}
use Rattle.swh_batchread.proofs.names.check_names.Goals as goal

pub returns-in-Some-clause-err : goal.returns-in-Some-clause-err
returns-in-Some-clause-err c = λ objects knows n.
    let lack = lacks (names_of objects) c.args.known.now.names c.args.ids.now objects c.in-Some.id (names_known objects c.args.known.now knows) (c.in-Some.ensures.some objects knows.kids) in
    record { possible = may_lack (names_of objects) c.args.ids.now objects c.in-Some.id lack; told = λ t. lack }

pub returns-in-None-clause-kids : goal.returns-in-None-clause-kids
returns-in-None-clause-kids c = λ objects knows. kids_each c.args.known.now.names.all objects c.args.known.now.kids.items knows.kids c.in-None.ensures.kids
