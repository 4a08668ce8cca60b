use Rattle.swh_format.specs.declared.kinds.RecordKind.TheVariants as kind
use Rattle.swh_format.specs.OpenRecord.{open_contents}
use Rattle.swh_format.proofs.KindLaws.{no_open, no_origin, visit_among}
use Rattle.swh_format.proofs.told.read_open.Goals as goal

pub returns-in_default-clause-none : goal.returns-in_default-clause-none
returns-in_default-clause-none c = no_open _ c.in_default.ensures.none

pub returns-in_default-2-clause-none : goal.returns-in_default-2-clause-none
returns-in_default-2-clause-none c =
    let t = c.in-Some.ensures.some in
    let p = c.in-Some.parts in
    no_origin kind.Open _ p.origin.now (open_contents p.kind p.date) t.spelled (visit_among p.kind, (t.date_fits, tt)) tt (rw c.in_default-2.is at c.in_ok-origin.ensures.none)
