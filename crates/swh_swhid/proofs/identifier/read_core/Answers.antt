use Rattle.std.proofs.Common.{refl, arith}
use Rattle.swh_swhid.specs.Core.{lead}
use Rattle.swh_swhid.proofs.Fronts.{common-le}
use Rattle.swh_swhid.proofs.Cores.{kind_long, lead_breaks, kind_behind, id_behind_lead, core_read}
use Rattle.swh_swhid.proofs.identifier.read_core.Goals as goal

pub returns-then-lead-lt6-clause-err : goal.returns-then-lead-lt6-clause-err
returns-then-lead-lt6-clause-err c = lead_breaks c.args.place c.args.text.now c.shared-lead.result c.shared-lead.ensures c.if-lead-lt6.true

pub behind-requires : goal.behind-requires
behind-requires c = let bound = (common-le lead c.args.text.now).1 in let far = rw c.shared-lead.ensures at c.if-lead-lt6.false in omega (arith, bound, far)

pub behind-id-requires : goal.behind-id-requires
behind-id-requires c = kind_long c.args.place c.in-Ok.kind c.args.text.now (rw c.behind.ensures at c.in-Ok.ensures.ok)

pub returns-in-Err-clause-err : goal.returns-in-Err-clause-err
returns-in-Err-clause-err c = kind_behind c.args.place c.args.text.now c.in-Err.at (rw c.shared-lead.ensures at c.if-lead-lt6.false) (rw c.behind.ensures at c.in-Err.ensures.err)

pub returns-in-Some-clause-ok : goal.returns-in-Some-clause-ok
returns-in-Some-clause-ok c =
    let some = rw c.behind-id.ensures at c.in-Some.ensures.some in
    let found = rw c.behind-id.ensures at c.in-Some.ensures.found in
    core_read c.args.place c.args.text.now c.in-Ok.kind c.in-Some.name (rw c.shared-lead.ensures at c.if-lead-lt6.false) (rw c.behind.ensures at c.in-Ok.ensures.ok) some.0 some.1 (found.0 refl)

pub returns-in-None-clause-err : goal.returns-in-None-clause-err
returns-in-None-clause-err c = id_behind_lead c.args.place c.in-Ok.kind c.args.text.now c.id_break.result (rw c.shared-lead.ensures at c.if-lead-lt6.false) (rw c.behind.ensures at c.in-Ok.ensures.ok) (rw c.behind-id.ensures at c.id_break.ensures)
