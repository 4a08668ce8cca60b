use Rattle.std.proofs.Common.{codes, refl}
use Rattle.std.proofs.lemmas.Result.{err_from_is_err_and}
use Rattle.swh_fastrows.proofs.NextLines.{took_held}
use Rattle.swh_fastread.proofs.Commits.{mark_fails, oid_fails, author_fails, encoding_fails, marked, named, authored, committed, encoded, at_tail, tail_item, committer_fails, message_fails, tail_explains, commit_whole}
use Rattle.swh_fastread.proofs.commit.read_commit.Goals as goal

pub returns-in_err-mark-clause-fails : goal.returns-in_err-mark-clause-fails
returns-in_err-mark-clause-fails g c = λ told.
    let q = err_from_is_err_and c.from_residual.result c.from_residual.ensures.1 in
    let t = took_held c.args.rows.now c.take.new.self (codes "commit ") c.args.branch c.requires.next c.requires.line refl c.take.ensures in
    rw (q.1, q.2) (mark_fails c.args.rows.now c.take.new.self c.args.rows.now.at c.args.branch c.in_err-mark.field-0.0 t c.requires.name (c.in_err-mark.ensures.fails told))

pub returns-in_err-skip_oid-clause-fails : goal.returns-in_err-skip_oid-clause-fails
returns-in_err-skip_oid-clause-fails g c = λ told.
    let q = err_from_is_err_and c.from_residual-in_err-skip_oid.result c.from_residual-in_err-skip_oid.ensures.1 in
    let t = took_held c.args.rows.now c.take.new.self (codes "commit ") c.args.branch c.requires.next c.requires.line refl c.take.ensures in
    let w1 = marked c.args.rows.now c.take.new.self c.optional_mark.new.rows c.args.rows.now.at c.args.branch c.in_ok-mark.mark t c.requires.name (c.in_ok-mark.ensures.part told) in
    rw (q.1, q.2) (oid_fails c.args.rows.now c.optional_mark.new.rows c.args.branch c.in_ok-mark.mark c.in_err-skip_oid.field-0.0 w1 (c.in_err-skip_oid.ensures.fails told))

pub returns-in_err-author-clause-fails : goal.returns-in_err-author-clause-fails
returns-in_err-author-clause-fails g c = λ told.
    let q = err_from_is_err_and c.from_residual-in_err-author.result c.from_residual-in_err-author.ensures.1 in
    let t = took_held c.args.rows.now c.take.new.self (codes "commit ") c.args.branch c.requires.next c.requires.line refl c.take.ensures in
    let w1 = marked c.args.rows.now c.take.new.self c.optional_mark.new.rows c.args.rows.now.at c.args.branch c.in_ok-mark.mark t c.requires.name (c.in_ok-mark.ensures.part told) in
    let w2 = named c.args.rows.now c.optional_mark.new.rows c.skip_oid.new.rows c.args.branch c.in_ok-mark.mark c.in_ok-skip_oid.field-0 w1 (c.in_ok-skip_oid.ensures.part told) in
    rw (q.1, q.2) (author_fails c.args.rows.now c.skip_oid.new.rows c.args.branch c.in_ok-mark.mark c.in_err-author.field-0.0 w2 (c.in_err-author.ensures.fails told))

pub returns-in_err-committer-clause-fails : goal.returns-in_err-committer-clause-fails
returns-in_err-committer-clause-fails g c = λ told.
    let q = err_from_is_err_and c.from_residual-in_err-committer.result c.from_residual-in_err-committer.ensures.1 in
    let t = took_held c.args.rows.now c.take.new.self (codes "commit ") c.args.branch c.requires.next c.requires.line refl c.take.ensures in
    let w1 = marked c.args.rows.now c.take.new.self c.optional_mark.new.rows c.args.rows.now.at c.args.branch c.in_ok-mark.mark t c.requires.name (c.in_ok-mark.ensures.part told) in
    let w2 = named c.args.rows.now c.optional_mark.new.rows c.skip_oid.new.rows c.args.branch c.in_ok-mark.mark c.in_ok-skip_oid.field-0 w1 (c.in_ok-skip_oid.ensures.part told) in
    let w3 = authored c.args.rows.now c.skip_oid.new.rows c.optional_person.new.rows c.args.branch c.in_ok-mark.mark c.in_ok-author.author w2 (c.in_ok-author.ensures.part told) in
    rw (q.1, q.2) (committer_fails c.args.rows.now c.optional_person.new.rows c.args.branch c.in_ok-mark.mark c.in_ok-author.author c.in_err-committer.field-0.0 w3 (c.in_err-committer.ensures.fails told))

pub returns-in_err-encoding-clause-fails : goal.returns-in_err-encoding-clause-fails
returns-in_err-encoding-clause-fails g c = λ told.
    let q = err_from_is_err_and c.from_residual-in_err-encoding.result c.from_residual-in_err-encoding.ensures.1 in
    let t = took_held c.args.rows.now c.take.new.self (codes "commit ") c.args.branch c.requires.next c.requires.line refl c.take.ensures in
    let w1 = marked c.args.rows.now c.take.new.self c.optional_mark.new.rows c.args.rows.now.at c.args.branch c.in_ok-mark.mark t c.requires.name (c.in_ok-mark.ensures.part told) in
    let w2 = named c.args.rows.now c.optional_mark.new.rows c.skip_oid.new.rows c.args.branch c.in_ok-mark.mark c.in_ok-skip_oid.field-0 w1 (c.in_ok-skip_oid.ensures.part told) in
    let w3 = authored c.args.rows.now c.skip_oid.new.rows c.optional_person.new.rows c.args.branch c.in_ok-mark.mark c.in_ok-author.author w2 (c.in_ok-author.ensures.part told) in
    let w4 = committed c.args.rows.now c.optional_person.new.rows c.person.new.rows c.args.branch c.in_ok-mark.mark c.in_ok-author.author c.in_ok-committer.committer w3 (c.in_ok-committer.ensures.part told) in
    rw (q.1, q.2) (encoding_fails c.args.rows.now c.person.new.rows c.args.branch c.in_ok-mark.mark c.in_ok-author.author c.in_ok-committer.committer c.in_err-encoding.field-0.0 w4 (c.in_err-encoding.ensures.fails told))

pub returns-in_err-message-clause-fails : goal.returns-in_err-message-clause-fails
returns-in_err-message-clause-fails g c = λ told.
    let q = err_from_is_err_and c.from_residual-in_err-message.result c.from_residual-in_err-message.ensures.1 in
    let t = took_held c.args.rows.now c.take.new.self (codes "commit ") c.args.branch c.requires.next c.requires.line refl c.take.ensures in
    let w1 = marked c.args.rows.now c.take.new.self c.optional_mark.new.rows c.args.rows.now.at c.args.branch c.in_ok-mark.mark t c.requires.name (c.in_ok-mark.ensures.part told) in
    let w2 = named c.args.rows.now c.optional_mark.new.rows c.skip_oid.new.rows c.args.branch c.in_ok-mark.mark c.in_ok-skip_oid.field-0 w1 (c.in_ok-skip_oid.ensures.part told) in
    let w3 = authored c.args.rows.now c.skip_oid.new.rows c.optional_person.new.rows c.args.branch c.in_ok-mark.mark c.in_ok-author.author w2 (c.in_ok-author.ensures.part told) in
    let w4 = committed c.args.rows.now c.optional_person.new.rows c.person.new.rows c.args.branch c.in_ok-mark.mark c.in_ok-author.author c.in_ok-committer.committer w3 (c.in_ok-committer.ensures.part told) in
    let w5 = encoded c.args.rows.now c.person.new.rows c.optional_encoding.new.rows c.args.branch c.in_ok-mark.mark c.in_ok-author.author c.in_ok-committer.committer c.in_ok-encoding.encoding w4 (c.in_ok-encoding.ensures.part told) in
    rw (q.1, q.2) (message_fails c.args.rows.now c.optional_encoding.new.rows c.args.branch c.in_ok-mark.mark c.in_ok-author.author c.in_ok-committer.committer c.in_ok-encoding.encoding c.in_err-message.field-0.0 w5 (c.in_err-message.ensures.fails told))

pub returns-in_err-tail-clause-fails : goal.returns-in_err-tail-clause-fails
returns-in_err-tail-clause-fails g c = λ told.
    let q = err_from_is_err_and c.from_residual-in_err-tail.result c.from_residual-in_err-tail.ensures.1 in
    let t = took_held c.args.rows.now c.take.new.self (codes "commit ") c.args.branch c.requires.next c.requires.line refl c.take.ensures in
    let w1 = marked c.args.rows.now c.take.new.self c.optional_mark.new.rows c.args.rows.now.at c.args.branch c.in_ok-mark.mark t c.requires.name (c.in_ok-mark.ensures.part told) in
    let w2 = named c.args.rows.now c.optional_mark.new.rows c.skip_oid.new.rows c.args.branch c.in_ok-mark.mark c.in_ok-skip_oid.field-0 w1 (c.in_ok-skip_oid.ensures.part told) in
    let w3 = authored c.args.rows.now c.skip_oid.new.rows c.optional_person.new.rows c.args.branch c.in_ok-mark.mark c.in_ok-author.author w2 (c.in_ok-author.ensures.part told) in
    let w4 = committed c.args.rows.now c.optional_person.new.rows c.person.new.rows c.args.branch c.in_ok-mark.mark c.in_ok-author.author c.in_ok-committer.committer w3 (c.in_ok-committer.ensures.part told) in
    let w5 = encoded c.args.rows.now c.person.new.rows c.optional_encoding.new.rows c.args.branch c.in_ok-mark.mark c.in_ok-author.author c.in_ok-committer.committer c.in_ok-encoding.encoding w4 (c.in_ok-encoding.ensures.part told) in
    let w6 = at_tail c.args.rows.now c.optional_encoding.new.rows c.data.new.rows c.args.branch c.in_ok-mark.mark c.in_ok-author.author c.in_ok-committer.committer c.in_ok-encoding.encoding c.in_ok-message.message w5 (c.in_ok-message.ensures.data told) in
    rw (q.1, q.2) (tail_explains c.args.rows.now c.data.new.rows (tail_item c.args.branch c.in_ok-mark.mark c.in_ok-author.author c.in_ok-committer.committer c.in_ok-encoding.encoding c.in_ok-message.message) c.in_err-tail.field-0.0 w6 (c.in_err-tail.ensures.fails told))

pub returns-clause-command : goal.returns-clause-command
returns-clause-command g c = λ told.
    let t = took_held c.args.rows.now c.take.new.self (codes "commit ") c.args.branch c.requires.next c.requires.line refl c.take.ensures in
    let w1 = marked c.args.rows.now c.take.new.self c.optional_mark.new.rows c.args.rows.now.at c.args.branch c.in_ok-mark.mark t c.requires.name (c.in_ok-mark.ensures.part told) in
    let w2 = named c.args.rows.now c.optional_mark.new.rows c.skip_oid.new.rows c.args.branch c.in_ok-mark.mark c.in_ok-skip_oid.field-0 w1 (c.in_ok-skip_oid.ensures.part told) in
    let w3 = authored c.args.rows.now c.skip_oid.new.rows c.optional_person.new.rows c.args.branch c.in_ok-mark.mark c.in_ok-author.author w2 (c.in_ok-author.ensures.part told) in
    let w4 = committed c.args.rows.now c.optional_person.new.rows c.person.new.rows c.args.branch c.in_ok-mark.mark c.in_ok-author.author c.in_ok-committer.committer w3 (c.in_ok-committer.ensures.part told) in
    let w5 = encoded c.args.rows.now c.person.new.rows c.optional_encoding.new.rows c.args.branch c.in_ok-mark.mark c.in_ok-author.author c.in_ok-committer.committer c.in_ok-encoding.encoding w4 (c.in_ok-encoding.ensures.part told) in
    let w6 = at_tail c.args.rows.now c.optional_encoding.new.rows c.data.new.rows c.args.branch c.in_ok-mark.mark c.in_ok-author.author c.in_ok-committer.committer c.in_ok-encoding.encoding c.in_ok-message.message w5 (c.in_ok-message.ensures.data told) in
    commit_whole c.args.rows.now c.data.new.rows c.read_tail.new.rows c.args.branch c.in_ok-mark.mark c.in_ok-author.author c.in_ok-committer.committer c.in_ok-encoding.encoding c.in_ok-message.message c.in_ok-tail.tail.parent c.in_ok-tail.tail.merges c.in_ok-tail.tail.changes w6 (c.in_ok-tail.ensures.tail told)
