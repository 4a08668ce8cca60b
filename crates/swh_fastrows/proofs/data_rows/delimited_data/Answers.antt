use Rattle.std.proofs.Common.{inr, sym, subst}
use Rattle.swh_base.specs.Limits.{body_limit}
use Rattle.swh_fastrows.specs.Explains.{DataFails}
use Rattle.swh_fastgrammar.specs.Grammar.{contents}
use Rattle.swh_fastrows.specs.Held.{TakesLines, LinesFail}
use Rattle.swh_fastrows.specs.Places.{ReaderState, Part}
use Rattle.swh_fastrows.proofs.CountedData.{stream_passes}
use Rattle.swh_fastrows.proofs.DelimitedData.{delimited_fails, delimited_row, delimited_part}
use Rattle.swh_fastrows.proofs.data_rows.delimited_data.Goals as goal

pub returns-in-Err-clause-fails : goal.returns-in-Err-clause-fails
returns-in-Err-clause-fails g c = λ told.
    subst (DataFails c.args.rows.now) (sym c.lines_fail.ensures)
    (delimited_fails c.args.rows.now c.delimited.new.self c.args.word.now c.in-Err.fault c.at.result c.requires.opens c.requires.next (subst (λ (p : ReaderState). LinesFail p c.delimited.new.self c.args.word.now body_limit c.in-Err.fault) c.take.ensures (c.in-Err.ensures.fails told)) c.at.ensures)

pub returns-then-at-gt-STREAM_LIMIT-clause-fails : goal.returns-then-at-gt-STREAM_LIMIT-clause-fails
returns-then-at-gt-STREAM_LIMIT-clause-fails g c = λ told.
    inr (stream_passes c.args.rows.now c.feed.new.self c.in-Ok.bytes.items c.at-2.result
    (delimited_row c.args.rows.now c.delimited.new.self c.feed.new.self c.args.word.now c.in-Ok.bytes.items c.in_ok-feed.field-0 c.requires.opens c.requires.next.line c.in-Ok.ensures.lines (subst (λ (p : ReaderState). TakesLines p c.delimited.new.self c.args.word.now c.in-Ok.bytes.items) c.take.ensures (c.in-Ok.ensures.taken told)) (c.in_ok-feed.ensures.feed told) c.feed.ensures.held)
    c.at-2.ensures c.if-at-gt-STREAM_LIMIT.true)

pub returns-clause-data : goal.returns-clause-data
returns-clause-data g c = λ told.
    subst (Part contents c.args.rows.now c.feed.new.self) (sym c.from_vec.ensures)
    (delimited_part c.args.rows.now c.delimited.new.self c.feed.new.self c.args.word.now c.in-Ok.bytes.items c.at-2.result c.requires.opens c.requires.next c.in-Ok.ensures.lines c.in-Ok.ensures.within (subst (λ (p : ReaderState). TakesLines p c.delimited.new.self c.args.word.now c.in-Ok.bytes.items) c.take.ensures (c.in-Ok.ensures.taken told)) (delimited_row c.args.rows.now c.delimited.new.self c.feed.new.self c.args.word.now c.in-Ok.bytes.items c.in_ok-feed.field-0 c.requires.opens c.requires.next.line c.in-Ok.ensures.lines (subst (λ (p : ReaderState). TakesLines p c.delimited.new.self c.args.word.now c.in-Ok.bytes.items) c.take.ensures (c.in-Ok.ensures.taken told)) (c.in_ok-feed.ensures.feed told) c.feed.ensures.held) c.at-2.ensures c.if-at-gt-STREAM_LIMIT.false)
