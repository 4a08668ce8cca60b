use Rattle.std.proofs.Common.{Ok, subst}
use Rattle.swh_core.specs.declared.step.Step.TheVariants.{Apply}
use Rattle.swh_core.specs.declared.step.Told.TheVariants.{Done}
use Rattle.swh_core.specs.declared.parts.Parts.{Parts as World}
use Rattle.swh_core.specs.Kept.{IsFront}
use Rattle.swh_core.proofs.Steps.{stepped}
use Rattle.swh_core.proofs.Runs.{went}
use Rattle.swh_core.proofs.laws.acknowledged_events_stay.Goals as goal

pub returns : goal.returns
returns c id_of w mid w' actor wish held outcome steps r k meant step more run =
    let one = stepped id_of (Apply actor wish held) (Ok (Done outcome)) w mid k meant step in
    let rest = went id_of steps r mid w' one.kept more run in
    (step.2, step.3, subst (λ (v : World). IsFront v.history w'.history) step.4 rest.later.history)
