use Rattle.std.proofs.Common.{rules, sym, subst}
use Rattle.std.specs.List.{AllByRecursion}
use Rattle.swh_fastlex.specs.Path.{IsComponent}
use Rattle.swh_fastlex.proofs.Components.{components_none, components_cut}
use Rattle.swh_fastlex.proofs.path.is_path.Goals as goal

pub returns-then-not-is_component : goal.returns-then-not-is_component
returns-then-not-is_component c =
    let cut = c.in-Some.ensures.some in (
      λ t. absurd cc,
      λ h. let parts = subst (AllByRecursion IsComponent) (components_cut c.components.rest.now c.in-Some.component.now c.in-Some.after.now cut.0 cut.1) (c.components.invariant.goes_on h) in
          let yes = c.if-not-is_component.ensures.1 parts.0 in let never = c.if-not-is_component.true in cc,
    )

pub components-preserved : goal.components-preserved
components-preserved c =
    let cut = c.in-Some.ensures.some in
    let same = components_cut c.components.rest.now c.in-Some.component.now c.in-Some.after.now cut.0 cut.1 in
    let one : IsComponent c.in-Some.component.now = c.if-not-is_component.ensures.0 (search rules) in
    record {
      goes_on = λ h. (subst (AllByRecursion IsComponent) same (c.components.invariant.goes_on h)).1;
      enough = λ h. c.components.invariant.enough (subst (AllByRecursion IsComponent) (sym same) (one, h));
    }

pub returns : goal.returns
returns c =
    let same = components_none c.components.rest.now c.in_default.ensures.none in (
      λ t. c.components.invariant.enough (subst (AllByRecursion IsComponent) (sym same) (c.is_component-2.ensures.0 t, tt)),
      λ h. c.is_component-2.ensures.1 (subst (AllByRecursion IsComponent) same (c.components.invariant.goes_on h)).0,
    )
