use Rattle.std.proofs.Common.{List, sym, subst}
use Rattle.std.specs.Prelude.{Contains}
use Rattle.swh_base.specs.declared.name.Name.{Name}
use Rattle.swh_carried.specs.Uncarried.{HasNoCycle, IsFirstToBreak, BreaksNone}
use Rattle.swh_graph.specs.Path.{directory_name}
use Rattle.swh_postorder.specs.Postorder.{IsPostorder}
use Rattle.swh_dircook.specs.Cook.{ExplainsUncarried}
use Rattle.swh_dircook.specs.Rules.{BreaksInFolder}
use Rattle.swh_dircook.proofs.Endings.{answers, no_order, first_breaks}
use Rattle.swh_dircook.proofs.cook.carried_order.Goals as goal

pub returns-in_err-order-clause-err : goal.returns-in_err-order-clause-err
returns-in_err-order-clause-err g c =
    let bodies = (g.L.Look.archive c.args.look.now).bodies in
    let children = g.L.Graph.children_of c.args.look.now in
    let root = directory_name c.args.directory in
    answers (ExplainsUncarried bodies children root) c.from_residual.result _ c.from_residual.ensures.1 (no_order bodies children root _ c.in_err-order.ensures.err)

pub first_uncarried-requires : goal.first_uncarried-requires
first_uncarried-requires g c =
    let children = g.L.Graph.children_of c.args.look.now in
    record {
      order = subst (IsPostorder children (directory_name c.args.directory)) (sym c.as_slice.ensures.value) c.in_ok-order.ensures.ok;
      acyclic = subst (HasNoCycle children) (sym c.as_slice.ensures.value) c.in_ok-order.ensures.acyclic;
    }

pub returns-in-Some-clause-err : goal.returns-in-Some-clause-err
returns-in-Some-clause-err g c =
    let bodies = (g.L.Look.archive c.args.look.now).bodies in
    let children = g.L.Graph.children_of c.args.look.now in
    let root = directory_name c.args.directory in
    let first = rw c.in-Some.is at c.in_ok-found.ensures.some in
    first_breaks bodies children root c.in_ok-order.order.items c.in_ok-order.ensures.ok c.in_ok-order.ensures.acyclic c.in-Some.name c.in-Some.why
    (subst (λ (l : List Name). IsFirstToBreak (BreaksInFolder bodies root) l c.in-Some.name c.in-Some.why) c.as_slice.ensures.value first)

pub returns-in-None-clause-carried : goal.returns-in-None-clause-carried
returns-in-None-clause-carried g c =
    let bodies = (g.L.Look.archive c.args.look.now).bodies in
    let root = directory_name c.args.directory in
    let none = rw c.in-None.is at c.in_ok-found.ensures.none in
    record {
      acyclic = c.in_ok-order.ensures.acyclic;
      none = subst (λ (l : List Name). (n : Name) → Contains l n → BreaksNone (BreaksInFolder bodies root) n) c.as_slice.ensures.value none;
    }
