use Rattle.swh_revfmt.proofs.Rests.{behind_author, behind_committer}
use Rattle.swh_revfmt.proofs.rest.revision_rest.Goals as goal

pub returns-in_default-person_line-clause-none : goal.returns-in_default-person_line-clause-none
returns-in_default-person_line-clause-none c = λ r h.
    let author = c.in-Some.ensures.some in
    c.in_default-person_line.ensures.none r.committer _ h.committer (behind_author c.args.bytes.now c.in-Some.author.text.now c.in-Some.author.rest.now r author.0 author.1 h)

pub returns-in_default-encoding_tail-clause-none :
    goal.returns-in_default-encoding_tail-clause-none
returns-in_default-encoding_tail-clause-none c = λ r h.
    let author = c.in-Some.ensures.some in
    let committer = c.in-Some-person_line.ensures.some in
    c.in_default-encoding_tail.ensures.none r.encoding r.message h.encoding
    (behind_committer c.args.bytes.now c.in-Some.author.text.now c.in-Some.author.rest.now c.in-Some-person_line.committer.text.now c.in-Some-person_line.committer.rest.now r author.0 author.1 committer.0 committer.1 h)
