use Rattle.std.proofs.Common.{codes, refl, []}
use Rattle.std.proofs.lemmas.Result.{err_from_is_err_and}
use Rattle.swh_fastrows.proofs.NextLines.{took_held}
use Rattle.swh_fastread.proofs.Blobs.{mark_fails, oid_fails, blob_reads, blob_fails}
use Rattle.swh_fastread.proofs.blob.read_blob.Goals as goal

pub returns-in_err-mark-clause-fails : goal.returns-in_err-mark-clause-fails
returns-in_err-mark-clause-fails g c = λ told.
    let q = err_from_is_err_and c.from_residual.result c.from_residual.ensures.1 in
    let t = took_held c.args.rows.now c.take.new.self (codes "blob") [] c.requires.next c.requires.line refl c.take.ensures in
    rw (q.1, q.2) (mark_fails c.args.rows.now c.take.new.self c.args.rows.now.at c.in_err-mark.field-0.0 t (c.in_err-mark.ensures.fails told))

pub returns-in_err-skip_oid-clause-fails : goal.returns-in_err-skip_oid-clause-fails
returns-in_err-skip_oid-clause-fails g c = λ told.
    let q = err_from_is_err_and c.from_residual-in_err-skip_oid.result c.from_residual-in_err-skip_oid.ensures.1 in
    let t = took_held c.args.rows.now c.take.new.self (codes "blob") [] c.requires.next c.requires.line refl c.take.ensures in
    rw (q.1, q.2) (oid_fails c.args.rows.now c.take.new.self c.optional_mark.new.rows c.args.rows.now.at c.in_ok-mark.mark c.in_err-skip_oid.field-0.0 t (c.in_ok-mark.ensures.part told) (c.in_err-skip_oid.ensures.fails told))

pub returns-in_err-bytes-clause-fails : goal.returns-in_err-bytes-clause-fails
returns-in_err-bytes-clause-fails g c = λ told.
    let q = err_from_is_err_and c.from_residual-in_err-bytes.result c.from_residual-in_err-bytes.ensures.1 in
    let t = took_held c.args.rows.now c.take.new.self (codes "blob") [] c.requires.next c.requires.line refl c.take.ensures in
    rw (q.1, q.2) (blob_fails c.args.rows.now c.take.new.self c.optional_mark.new.rows c.skip_oid.new.rows c.args.rows.now.at c.in_ok-mark.mark c.in_ok-skip_oid.field-0 c.in_err-bytes.field-0.0 t (c.in_ok-mark.ensures.part told) (c.in_ok-skip_oid.ensures.part told) (c.in_err-bytes.ensures.fails told))

pub returns-clause-command : goal.returns-clause-command
returns-clause-command g c = λ told.
    let t = took_held c.args.rows.now c.take.new.self (codes "blob") [] c.requires.next c.requires.line refl c.take.ensures in
    blob_reads c.args.rows.now c.take.new.self c.optional_mark.new.rows c.skip_oid.new.rows c.data.new.rows c.args.rows.now.at c.in_ok-mark.mark c.in_ok-skip_oid.field-0 c.in_ok-bytes.bytes t (c.in_ok-mark.ensures.part told) (c.in_ok-skip_oid.ensures.part told) (c.in_ok-bytes.ensures.data told)
