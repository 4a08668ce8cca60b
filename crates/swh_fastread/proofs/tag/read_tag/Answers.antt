use Rattle.std.proofs.Common.{codes, refl}
use Rattle.std.proofs.lemmas.Result.{err_from_is_err_and}
use Rattle.swh_fastrows.proofs.NextLines.{took_held}
use Rattle.swh_fastread.proofs.Tags.{mark_fails, oid_fails, tagger_fails, marked, aimed, named, tagged, tag_reads, aim_fails, tag_fails}
use Rattle.swh_fastread.proofs.tag.read_tag.Goals as goal

pub returns-in_err-mark-clause-fails : goal.returns-in_err-mark-clause-fails
returns-in_err-mark-clause-fails g c = λ told.
    let q = err_from_is_err_and c.from_residual.result c.from_residual.ensures.1 in
    let t = took_held c.args.rows.now c.take.new.self (codes "tag ") c.args.branch c.requires.next c.requires.line refl c.take.ensures in
    rw (q.1, q.2) (mark_fails c.args.rows.now c.take.new.self c.args.rows.now.at c.args.branch c.in_err-mark.field-0.0 t c.requires.name (c.in_err-mark.ensures.fails told))

pub returns-in_err-target-clause-fails : goal.returns-in_err-target-clause-fails
returns-in_err-target-clause-fails g c = λ told.
    let q = err_from_is_err_and c.from_residual-in_err-target.result c.from_residual-in_err-target.ensures.1 in
    let t = took_held c.args.rows.now c.take.new.self (codes "tag ") c.args.branch c.requires.next c.requires.line refl c.take.ensures in
    let w1 = marked c.args.rows.now c.take.new.self c.optional_mark.new.rows c.args.rows.now.at c.args.branch c.in_ok-mark.mark t c.requires.name (c.in_ok-mark.ensures.part told) in
    rw (q.1, q.2) (aim_fails c.args.rows.now c.optional_mark.new.rows c.args.branch c.in_ok-mark.mark c.in_err-target.field-0.0 w1 (c.in_err-target.ensures.fails told))

pub returns-in_err-skip_oid-clause-fails : goal.returns-in_err-skip_oid-clause-fails
returns-in_err-skip_oid-clause-fails g c = λ told.
    let q = err_from_is_err_and c.from_residual-in_err-skip_oid.result c.from_residual-in_err-skip_oid.ensures.1 in
    let t = took_held c.args.rows.now c.take.new.self (codes "tag ") c.args.branch c.requires.next c.requires.line refl c.take.ensures in
    let w1 = marked c.args.rows.now c.take.new.self c.optional_mark.new.rows c.args.rows.now.at c.args.branch c.in_ok-mark.mark t c.requires.name (c.in_ok-mark.ensures.part told) in
    let w2 = aimed c.args.rows.now c.optional_mark.new.rows c.named_commit.new.rows c.args.branch c.in_ok-mark.mark c.in_ok-target.target w1 (c.in_ok-target.ensures.part told) in
    rw (q.1, q.2) (oid_fails c.args.rows.now c.named_commit.new.rows c.args.branch c.in_ok-mark.mark c.in_ok-target.target c.in_err-skip_oid.field-0.0 w2 (c.in_err-skip_oid.ensures.fails told))

pub returns-in_err-tagger-clause-fails : goal.returns-in_err-tagger-clause-fails
returns-in_err-tagger-clause-fails g c = λ told.
    let q = err_from_is_err_and c.from_residual-in_err-tagger.result c.from_residual-in_err-tagger.ensures.1 in
    let t = took_held c.args.rows.now c.take.new.self (codes "tag ") c.args.branch c.requires.next c.requires.line refl c.take.ensures in
    let w1 = marked c.args.rows.now c.take.new.self c.optional_mark.new.rows c.args.rows.now.at c.args.branch c.in_ok-mark.mark t c.requires.name (c.in_ok-mark.ensures.part told) in
    let w2 = aimed c.args.rows.now c.optional_mark.new.rows c.named_commit.new.rows c.args.branch c.in_ok-mark.mark c.in_ok-target.target w1 (c.in_ok-target.ensures.part told) in
    let w3 = named c.args.rows.now c.named_commit.new.rows c.skip_oid.new.rows c.args.branch c.in_ok-mark.mark c.in_ok-target.target c.in_ok-skip_oid.field-0 w2 (c.in_ok-skip_oid.ensures.part told) in
    rw (q.1, q.2) (tagger_fails c.args.rows.now c.skip_oid.new.rows c.args.branch c.in_ok-mark.mark c.in_ok-target.target c.in_err-tagger.field-0.0 w3 (c.in_err-tagger.ensures.fails told))

pub returns-in_err-message-clause-fails : goal.returns-in_err-message-clause-fails
returns-in_err-message-clause-fails g c = λ told.
    let q = err_from_is_err_and c.from_residual-in_err-message.result c.from_residual-in_err-message.ensures.1 in
    let t = took_held c.args.rows.now c.take.new.self (codes "tag ") c.args.branch c.requires.next c.requires.line refl c.take.ensures in
    let w1 = marked c.args.rows.now c.take.new.self c.optional_mark.new.rows c.args.rows.now.at c.args.branch c.in_ok-mark.mark t c.requires.name (c.in_ok-mark.ensures.part told) in
    let w2 = aimed c.args.rows.now c.optional_mark.new.rows c.named_commit.new.rows c.args.branch c.in_ok-mark.mark c.in_ok-target.target w1 (c.in_ok-target.ensures.part told) in
    let w3 = named c.args.rows.now c.named_commit.new.rows c.skip_oid.new.rows c.args.branch c.in_ok-mark.mark c.in_ok-target.target c.in_ok-skip_oid.field-0 w2 (c.in_ok-skip_oid.ensures.part told) in
    let w4 = tagged c.args.rows.now c.skip_oid.new.rows c.optional_person.new.rows c.args.branch c.in_ok-mark.mark c.in_ok-target.target c.in_ok-tagger.tagger w3 (c.in_ok-tagger.ensures.part told) in
    rw (q.1, q.2) (tag_fails c.args.rows.now c.optional_person.new.rows c.args.branch c.in_ok-mark.mark c.in_ok-target.target c.in_ok-tagger.tagger c.in_err-message.field-0.0 w4 (c.in_err-message.ensures.fails told))

pub returns-clause-command : goal.returns-clause-command
returns-clause-command g c = λ told.
    let t = took_held c.args.rows.now c.take.new.self (codes "tag ") c.args.branch c.requires.next c.requires.line refl c.take.ensures in
    let w1 = marked c.args.rows.now c.take.new.self c.optional_mark.new.rows c.args.rows.now.at c.args.branch c.in_ok-mark.mark t c.requires.name (c.in_ok-mark.ensures.part told) in
    let w2 = aimed c.args.rows.now c.optional_mark.new.rows c.named_commit.new.rows c.args.branch c.in_ok-mark.mark c.in_ok-target.target w1 (c.in_ok-target.ensures.part told) in
    let w3 = named c.args.rows.now c.named_commit.new.rows c.skip_oid.new.rows c.args.branch c.in_ok-mark.mark c.in_ok-target.target c.in_ok-skip_oid.field-0 w2 (c.in_ok-skip_oid.ensures.part told) in
    let w4 = tagged c.args.rows.now c.skip_oid.new.rows c.optional_person.new.rows c.args.branch c.in_ok-mark.mark c.in_ok-target.target c.in_ok-tagger.tagger w3 (c.in_ok-tagger.ensures.part told) in
    tag_reads c.args.rows.now c.optional_person.new.rows c.data.new.rows c.args.branch c.in_ok-mark.mark c.in_ok-target.target c.in_ok-tagger.tagger c.in_ok-message.message w4 (c.in_ok-message.ensures.data told)
