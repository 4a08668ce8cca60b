use Rattle.swh_base.proofs.Lacks.{person-no_feed}
use Rattle.swh_revfmt.proofs.Rests.{long_line, no_person}
use Rattle.swh_revfmt.proofs.rest.person_line.Goals as goal

pub returns-in_default-clause-none : goal.returns-in_default-clause-none
returns-in_default-clause-none c = λ text rest p e. c.in_default.ensures.none text rest (person-no_feed text p.person) e

pub returns-then-word-line-ge-LINE_LIMIT-clause-none :
    goal.returns-then-word-line-ge-LINE_LIMIT-clause-none
returns-then-word-line-ge-LINE_LIMIT-clause-none c =
    let line = c.in-Some.ensures.some in
    long_line c.args.word.now c.args.bytes.now c.in-Some.line.text.now c.in-Some.line.rest.now line.0 line.1 c.if-word-line-ge-LINE_LIMIT.true

pub returns-then-not-is_person-clause-none : goal.returns-then-not-is_person-clause-none
returns-then-not-is_person-clause-none c =
    let line = c.in-Some.ensures.some in
    no_person c.args.word.now c.args.bytes.now c.in-Some.line.text.now c.in-Some.line.rest.now line.0 line.1 (λ h. let yes = c.if-not-is_person.ensures.1 h in let no = c.if-not-is_person.true in cc)
