use Rattle.std.proofs.Common.{Ok, length, sym, subst}
use Rattle.swh_core.specs.declared.parts.Parts.{Parts as World}
use Rattle.swh_core.specs.Step.{IsMeant}
use Rattle.swh_core.specs.Kept.{IsLater}
use Rattle.swh_core.proofs.Steps.{stepped}
use Rattle.swh_core.proofs.world.World.step.Goals as goal

pub invariant_of-self : goal.invariant_of-self
invariant_of-self g c =
    (stepped g.N.Namer.id_of c.args.step (Ok c.in_ok-told.told) c.self.inside.parts c.in_ok-told.parts c.self.invariant
    (subst (λ (w : World). IsMeant g.N.Namer.id_of (length w.seen) c.args.step) (sym c.self.view_is) c.requires) c.in_ok-told.ensures.ok).kept

pub returns-clause-kept : goal.returns-clause-kept
returns-clause-kept g c =
    (stepped g.N.Namer.id_of c.args.step (Ok c.in_ok-told.told) c.self.inside.parts c.in_ok-told.parts c.self.invariant
    (subst (λ (w : World). IsMeant g.N.Namer.id_of (length w.seen) c.args.step) (sym c.self.view_is) c.requires) c.in_ok-told.ensures.ok).kept

pub returns-clause-later : goal.returns-clause-later
returns-clause-later g c =
    subst (λ (w : World). IsLater w c.in_ok-told.parts) c.self.view_is
    (stepped g.N.Namer.id_of c.args.step (Ok c.in_ok-told.told) c.self.inside.parts c.in_ok-told.parts c.self.invariant
    (subst (λ (w : World). IsMeant g.N.Namer.id_of (length w.seen) c.args.step) (sym c.self.view_is) c.requires) c.in_ok-told.ensures.ok).later
