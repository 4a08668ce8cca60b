use Rattle.std.proofs.Common.{codes}
use Rattle.swh_revfmt.specs.Plain.{IsEncoding}
use Rattle.swh_revfmt.proofs.Rests.{no_message}
use Rattle.swh_revfmt.proofs.rest.encoding_tail.Goals as goal

pub returns-in_default-behind-clause-none : goal.returns-in_default-behind-clause-none
returns-in_default-behind-clause-none c =
    let line = c.in-Some-encoding_line.ensures.some in
    no_message (codes "encoding ") c.args.bytes.now c.in-Some-encoding_line.line.text.now c.in-Some-encoding_line.line.rest.now IsEncoding (λ text h. h.one_line) line.0.one_line line.1 c.in_default.ensures.none c.in_default-behind.ensures.none
