use Rattle.std.proofs.Common.{Err, inr, ◌+◌, subst, sym, ap, ◌∙◌}
use Rattle.swh_fastrows.specs.Explains.{DataFails}
use Rattle.swh_fastgrammar.specs.Grammar.{contents}
use Rattle.swh_fastrows.specs.Held.{IsShort}
use Rattle.swh_fastrows.specs.Places.{ReaderState, Part}
use Rattle.swh_fastrows.proofs.CountedData.{counted_fails, stream_passes, counted_row, counted_part}
use Rattle.swh_fastrows.proofs.data_rows.counted_data.Goals as goal

pub returns-in-Err-clause-fails : goal.returns-in-Err-clause-fails
returns-in-Err-clause-fails g c = λ told.
    subst (DataFails c.args.rows.now) (sym c.data_fail.ensures)
    (counted_fails c.args.rows.now c.bytes.new.self c.in-Err.fault c.args.count c.at.result c.requires.opens c.requires.next c.in-Err.ensures.not_limit (λ e. subst (λ (p : ReaderState). IsShort c.args.count p c.bytes.new.self) c.take.ensures (c.in-Err.ensures.end told (ap Err e))) c.at.ensures)

pub returns-then-at-gt-STREAM_LIMIT-clause-fails : goal.returns-then-at-gt-STREAM_LIMIT-clause-fails
returns-then-at-gt-STREAM_LIMIT-clause-fails g c = λ told.
    inr (stream_passes c.args.rows.now c.feed.new.self c.in-Ok.bytes.items c.at-2.result
    (counted_row c.args.rows.now c.bytes.new.self c.feed.new.self c.in-Ok.bytes.items c.args.count c.in_ok-feed.field-0 c.requires.opens c.requires.next.line c.in-Ok.ensures.count (sym (ap (λ (p : ReaderState). p.rest) c.take.ensures) ∙ c.in-Ok.ensures.taken told) (c.in-Ok.ensures.counted told ∙ ap (λ (p : ReaderState). p.at + c.args.count) c.take.ensures) (c.in_ok-feed.ensures.feed told) c.feed.ensures.held)
    c.at-2.ensures c.if-at-gt-STREAM_LIMIT.true)

pub returns-clause-data : goal.returns-clause-data
returns-clause-data g c = λ told.
    subst (Part contents c.args.rows.now c.feed.new.self) (sym c.from_vec.ensures)
    (counted_part c.args.rows.now c.feed.new.self c.in-Ok.bytes.items c.args.count c.at-2.result c.requires.opens c.requires.next (counted_row c.args.rows.now c.bytes.new.self c.feed.new.self c.in-Ok.bytes.items c.args.count c.in_ok-feed.field-0 c.requires.opens c.requires.next.line c.in-Ok.ensures.count (sym (ap (λ (p : ReaderState). p.rest) c.take.ensures) ∙ c.in-Ok.ensures.taken told) (c.in-Ok.ensures.counted told ∙ ap (λ (p : ReaderState). p.at + c.args.count) c.take.ensures) (c.in_ok-feed.ensures.feed told) c.feed.ensures.held) c.at-2.ensures c.if-at-gt-STREAM_LIMIT.false)
