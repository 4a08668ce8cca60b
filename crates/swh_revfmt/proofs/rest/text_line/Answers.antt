use Rattle.swh_revfmt.proofs.Rests.{no_line}
use Rattle.swh_revfmt.proofs.rest.text_line.Goals as goal

pub returns-in_default-split_at_byte-clause-none :
    goal.returns-in_default-split_at_byte-clause-none
returns-in_default-split_at_byte-clause-none c =
    λ text rest _ e. no_line c.args.word.now c.args.bytes.now c.in-Some.rest.now c.in-Some.ensures.some c.in_default-split_at_byte.ensures.none text rest e
