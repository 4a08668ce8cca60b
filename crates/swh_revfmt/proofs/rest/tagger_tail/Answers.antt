use Rattle.std.proofs.Common.{codes}
use Rattle.swh_revfmt.specs.Plain.{IsPersonLine}
use Rattle.swh_base.proofs.Lacks.{person-no_feed}
use Rattle.swh_revfmt.proofs.Rests.{no_message}
use Rattle.swh_revfmt.proofs.rest.tagger_tail.Goals as goal

pub returns-in_default-behind-clause-none : goal.returns-in_default-behind-clause-none
returns-in_default-behind-clause-none c =
    let line = c.in-Some-person_line.ensures.some in
    no_message (codes "tagger ") c.args.bytes.now c.in-Some-person_line.line.text.now c.in-Some-person_line.line.rest.now (IsPersonLine (codes "tagger ")) (λ text h. person-no_feed text h.person)
    (person-no_feed c.in-Some-person_line.line.text.now line.0.person) line.1 c.in_default.ensures.none c.in_default-behind.ensures.none
