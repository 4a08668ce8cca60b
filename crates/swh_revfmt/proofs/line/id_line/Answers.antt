use Rattle.std.proofs.Common.{[]}
use Rattle.swh_revfmt.specs.Reading.{NotLine}
use Rattle.swh_revfmt.proofs.Lines.{not_behind, not_line, IfNone-then}
use Rattle.swh_revfmt.proofs.line.id_line.Goals as goal

pub returns-in_default-clause-none : goal.returns-in_default-clause-none
returns-in_default-clause-none c = not_behind c.args.word.now c.args.bytes.now c.in_default.ensures.none

pub returns-clause-none : goal.returns-clause-none
returns-clause-none c =
    IfNone-then c.digits_line.result (NotLine [] c.in-Some.rest.now) (NotLine c.args.word.now c.args.bytes.now) (not_line c.args.word.now c.args.bytes.now c.in-Some.rest.now c.in-Some.ensures.some) c.digits_line.ensures.none
