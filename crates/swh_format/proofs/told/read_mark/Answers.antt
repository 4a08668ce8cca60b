use Rattle.swh_format.specs.declared.kinds.RecordKind.TheVariants as kind
use Rattle.swh_format.specs.MarkRecord.{mark_contents}
use Rattle.swh_format.proofs.KindLaws.{no_mark, no_origin, status_among}
use Rattle.swh_format.proofs.told.read_mark.Goals as goal

pub returns-in_default-clause-none : goal.returns-in_default-clause-none
returns-in_default-clause-none c = no_mark _ c.in_default.ensures.none

pub returns-in_default-2-clause-none : goal.returns-in_default-2-clause-none
returns-in_default-2-clause-none c =
    let t = c.in-Some.ensures.some in
    let p = c.in-Some.parts in
    no_origin kind.Mark _ p.origin.now (mark_contents p.status p.visit p.snapshot) t.spelled (status_among p.status t.status_is, (t.visit_fits, (t.id, tt))) tt (rw c.in_default-2.is at c.in_ok-origin.ensures.none)
