use Rattle.std.proofs.Common.{◌↔◌, sym, subst}
use Rattle.std.specs.Prelude.{IfOk, IsTrue}
use Rattle.swh_model.specs.declared.event.EventKind.{EventKind}
use Rattle.swh_model.specs.Happens.{CanHappenKind}
use Rattle.swh_model.proofs.stepping.may_happen.Goals as goal

pub returns-in-Mark : goal.returns-in-Mark
returns-in-Mark c =
    subst (λ (what : EventKind). IfOk c.may_mark.result (λ may. IsTrue may ↔ CanHappenKind c.args.state.now c.args.event.now.by what)) (sym c.in-Mark.is) c.may_mark.ensures
