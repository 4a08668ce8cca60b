use Rattle.std.proofs.Common.{◌∙◌, sym, subst, List}
use Rattle.std.specs.Prelude.{Contains}
use Rattle.swh_base.specs.declared.name.Name.{Name}
use Rattle.swh_closure.proofs.Order.{has, there}
use Rattle.swh_closure.proofs.closed.Closed.contains.Goals as goal

pub returns : goal.returns
returns c =
    let back = λ (names : List Name). Contains names c.args.name.now in (
      λ t. subst back c.self.view_is (has c.self.inside.names.keys c.args.name.now (sym c.contains.ensures ∙ t)),
      λ h. c.contains.ensures ∙ there c.self.inside.names.keys c.args.name.now (subst back (sym c.self.view_is) h),
    )
