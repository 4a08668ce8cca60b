use Rattle.swh_fastlines.proofs.DataOpened.{no_feed_word}
use Rattle.swh_fastlines.proofs.data_lines.delimited_line.Goals as goal

pub returns-in-Some : goal.returns-in-Some
returns-in-Some c =
    let cut = c.in-Some.ensures.some in
    no_feed_word c.args.word.now c.in-Some.field-0.0.now c.in-Some.field-0.1.now cut.1
