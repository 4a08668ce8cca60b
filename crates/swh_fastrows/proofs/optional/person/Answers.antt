use Rattle.swh_fastgrammar.specs.Grammar.{line}
use Rattle.swh_fastgrammar.specs.Word.{NamesPerson}
use Rattle.swh_fastrows.proofs.NextLines.{lacks_fails}
use Rattle.swh_fastrows.proofs.optional.person.Goals as goal

pub returns-in-None-clause-fails : goal.returns-in-None-clause-fails
returns-in-None-clause-fails g c = λ told.
    let l = rw c.in-None.is at (c.in_ok-person.ensures.part told) in
    lacks_fails (line c.args.word.now NamesPerson) c.args.rows.now c.optional_person.new.rows c.refusal.result l (c.refusal.ensures.refusal told l.counts)
