use Rattle.std.proofs.Common.{inr, refl, sym, subst}
use Rattle.swh_carried.specs.Uncarried.{AreCarried}
use Rattle.swh_graph.specs.Path.{directory_name}
use Rattle.swh_postorder.specs.Postorder.{IsPostorder}
use Rattle.swh_pathwalk.proofs.Trees.{some_walk}
use Rattle.swh_dircook.specs.Cook.{ExplainsNoFolder}
use Rattle.swh_dircook.specs.Made.{yarded}
use Rattle.swh_dircook.specs.Rules.{BreaksInFolder}
use Rattle.swh_dircook.proofs.Endings.{answers, not_begun, quiet_cause, made_whole, made_front}
use Rattle.swh_dircook.proofs.Paths.{root_there, held_order}
use Rattle.swh_dircook.proofs.cook.cook_folder.Goals as goal

pub returns-in_err-order-clause-err : goal.returns-in_err-order-clause-err
returns-in_err-order-clause-err g c =
    let bodies = (g.L.Look.archive c.args.look.now).bodies in
    let children = g.L.Graph.children_of c.args.look.now in
    let root = directory_name c.args.directory in
    let old = yarded (g.Y.Sink.begun c.args.yard.now) (g.Y.Sink.taken c.args.yard.now) in
    answers (ExplainsNoFolder bodies children root c.args.out.now g.Y.Sink.tells _ old old) c.from_residual.result _ c.from_residual.ensures.1
    (not_begun bodies children root c.args.out.now g.Y.Sink.tells _ old old refl _ c.in_err-order.ensures.err)

pub returns-in_err-order-clause-cause : goal.returns-in_err-order-clause-cause
returns-in_err-order-clause-cause g c =
    let bodies = (g.L.Look.archive c.args.look.now).bodies in
    let children = g.L.Graph.children_of c.args.look.now in
    quiet_cause bodies children (directory_name c.args.directory) (g.Y.Sink.faults c.args.yard.now) c.from_residual.result _ c.from_residual.ensures.1 c.in_err-order.ensures.err

pub make_whole-requires : goal.make_whole-requires
make_whole-requires g c = (
  c.type_bounds.send-Y,
  (
    subst (IsPostorder (g.L.Graph.children_of c.args.look.now) (directory_name c.args.directory)) (sym c.as_slice.ensures.value) c.in_ok-order.ensures.order,
    subst (AreCarried (g.L.Graph.children_of c.args.look.now) (BreaksInFolder (g.L.Look.archive c.args.look.now).bodies (directory_name c.args.directory))) (sym c.as_slice.ensures.value) c.in_ok-order.ensures.carried,
  ),
)

pub returns-in-Ok-clause-made : goal.returns-in-Ok-clause-made
returns-in-Ok-clause-made g c =
    let bodies = (g.L.Look.archive c.args.look.now).bodies in
    let children = g.L.Graph.children_of c.args.look.now in
    let root = directory_name c.args.directory in
    let order = c.in_ok-order.order.items in
    let is = held_order children root order c.in_ok-order.ensures.order c.in_ok-order.ensures.carried.acyclic in
    let all = some_walk bodies children c.is_graph.ensures order is root (root_there children root order c.in_ok-order.ensures.order) refl in
    made_whole bodies children root all.0 all.1 c.args.out.now (yarded (g.Y.Sink.begun c.args.yard.now) (g.Y.Sink.taken c.args.yard.now)) (yarded (g.Y.Sink.begun c.make_whole.new.yard) (g.Y.Sink.taken c.make_whole.new.yard)) g.Y.Sink.tells _
    (c.in-Ok.ensures.made all.0 all.1)

pub returns-in-Err-Failed-clause-err : goal.returns-in-Err-Failed-clause-err
returns-in-Err-Failed-clause-err g c =
    let bodies = (g.L.Look.archive c.args.look.now).bodies in
    let children = g.L.Graph.children_of c.args.look.now in
    let root = directory_name c.args.directory in
    let order = c.in_ok-order.order.items in
    let carried = c.in_ok-order.ensures.carried in
    let is = held_order children root order c.in_ok-order.ensures.order carried.acyclic in
    let all = some_walk bodies children c.is_graph.ensures order is root (root_there children root order c.in_ok-order.ensures.order) refl in (
      record { order = order; is_order = c.in_ok-order.ensures.order; carried = carried },
      made_front bodies children root all.0 all.1 c.args.out.now (yarded (g.Y.Sink.begun c.args.yard.now) (g.Y.Sink.taken c.args.yard.now)) (yarded (g.Y.Sink.begun c.make_whole.new.yard) (g.Y.Sink.taken c.make_whole.new.yard)) g.Y.Sink.tells _
          (c.in-Err-Failed.ensures.made all.0 all.1),
    )

pub returns-clause-err : goal.returns-clause-err
returns-clause-err g c =
    let bodies = (g.L.Look.archive c.args.look.now).bodies in
    let children = g.L.Graph.children_of c.args.look.now in
    let root = directory_name c.args.directory in
    let order = c.in_ok-order.order.items in
    let carried = c.in_ok-order.ensures.carried in
    let is = held_order children root order c.in_ok-order.ensures.order carried.acyclic in
    let all = some_walk bodies children c.is_graph.ensures order is root (root_there children root order c.in_ok-order.ensures.order) refl in
    inr (
      record { order = order; is_order = c.in_ok-order.ensures.order; carried = carried },
      made_front bodies children root all.0 all.1 c.args.out.now (yarded (g.Y.Sink.begun c.args.yard.now) (g.Y.Sink.taken c.args.yard.now)) (yarded (g.Y.Sink.begun c.make_whole.new.yard) (g.Y.Sink.taken c.make_whole.new.yard)) g.Y.Sink.tells _
          (c.in-Err-Memory.ensures.made all.0 all.1),
    )
