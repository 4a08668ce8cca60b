use Rattle.std.proofs.Common.{sym, ap, ◌∙◌, subst}
use Rattle.std.specs.List.{AllByRecursion}
use Rattle.swh_format.specs.StoredObject.{coded_run}
use Rattle.swh_format.proofs.KindLaws.{packed}
use Rattle.swh_check.specs.Bodies.{IsHeldNamed}
use Rattle.swh_check.proofs.bodies.check_objects.Goals as goal

pub check_run-requires-clause-held : goal.check_run-requires-clause-held
check_run-requires-clause-held g c κs long =
    let held = c.requires.held in (held.0, subst (AllByRecursion (IsHeldNamed g.N.Namer.id_of held.0)) (sym c.entries.ensures) held.1)

pub returns-clause-told : goal.returns-clause-told
returns-clause-told g c bodies held coded =
    c.check_run.ensures.told bodies (subst (AllByRecursion (IsHeldNamed g.N.Namer.id_of bodies)) (sym c.entries.ensures) held)
    (coded ∙ packed c.args.event.now ∙ ap coded_run (sym c.entries.ensures))

pub returns-clause-damaged : goal.returns-clause-damaged
returns-clause-damaged g c bodies held =
    c.check_run.ensures.damaged bodies (subst (AllByRecursion (IsHeldNamed g.N.Namer.id_of bodies)) (sym c.entries.ensures) held)
