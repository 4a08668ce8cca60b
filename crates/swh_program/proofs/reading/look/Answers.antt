use Rattle.swh_program.specs.declared.reading.Reading.TheVariants.{Ask, Cook}
use Rattle.swh_program.proofs.Cooked.{told_as, leaves_as}
use Rattle.swh_program.proofs.reading.look.Goals as goal

pub returns-in-Ask-clause-told : goal.returns-in-Ask-clause-told
returns-in-Ask-clause-told g c =
    let shown = c.replayed.ensures c.requires in
    told_as g.N.Namer.id_of _ _ (Ask c.in-Ask.paths) c.in-Ask.is _ c.tell_replies.result (rw shown at c.tell_replies.ensures.told)

pub returns-in-Cook-clause-told : goal.returns-in-Cook-clause-told
returns-in-Cook-clause-told g c =
    let shown = c.replayed-in-Cook.ensures c.requires in
    told_as g.N.Namer.id_of _ _ (Cook c.in-Cook.name c.in-Cook.out) c.in-Cook.is _ c.tell_cook.result (rw shown at c.tell_cook.ensures.told)

pub returns-in-Cook-clause-leaves : goal.returns-in-Cook-clause-leaves
returns-in-Cook-clause-leaves g c =
    let shown = c.replayed-in-Cook.ensures c.requires in
    leaves_as _ _ (Cook c.in-Cook.name c.in-Cook.out) c.in-Cook.is _ c.tell_cook.result (rw shown at c.tell_cook.ensures.leaves)
