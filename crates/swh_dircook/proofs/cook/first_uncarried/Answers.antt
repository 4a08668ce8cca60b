use Rattle.swh_graph.specs.Path.{directory_name}
use Rattle.swh_postorder.proofs.Orders.{order_once}
use Rattle.swh_dircook.specs.Rules.{IsLongFolder}
use Rattle.swh_dircook.proofs.Paths.{root_there, held_order}
use Rattle.swh_dircook.proofs.Rules.{first_found, none_found, long_found}
use Rattle.swh_dircook.proofs.cook.first_uncarried.Goals as goal

pub first_in_order-requires : goal.first_in_order-requires
first_in_order-requires g c =
    let children = g.L.Graph.children_of c.args.look.now in
    let root = directory_name c.args.directory in
    record {
      preceded = (held_order children root c.args.order.now c.requires.order c.requires.acyclic).preceded;
      once = order_once children root c.args.order.now c.requires.order;
      there = root_there children root c.args.order.now c.requires.order;
    }

pub returns-in-Some-clause-some : goal.returns-in-Some-clause-some
returns-in-Some-clause-some g c =
    let bodies = (g.L.Look.archive c.args.look.now).bodies in
    let root = directory_name c.args.directory in
    first_found (g.L.Graph.children_of c.args.look.now) root c.args.order.now c.requires.order bodies (IsLongFolder bodies root) c.in-Some.found.0 c.in-Some.found.1 (rw c.in-Some.is at c.in_ok-found.ensures.some)

pub returns-then-long-clause-some : goal.returns-then-long-clause-some
returns-then-long-clause-some g c =
    let bodies = (g.L.Look.archive c.args.look.now).bodies in
    let root = directory_name c.args.directory in
    long_found (g.L.Graph.children_of c.args.look.now) root c.args.order.now c.requires.order bodies (IsLongFolder bodies root) (c.in_ok-long.ensures.0 c.if-long.true) (rw c.in_default.is at c.in_ok-found.ensures.none)

pub returns-clause-none : goal.returns-clause-none
returns-clause-none g c =
    let bodies = (g.L.Look.archive c.args.look.now).bodies in
    let root = directory_name c.args.directory in
    none_found (g.L.Graph.children_of c.args.look.now) root c.args.order.now c.requires.order bodies (IsLongFolder bodies root) (λ long. let e = c.in_ok-long.ensures.1 long in let f = c.if-long.false in cc) (rw c.in_default.is at c.in_ok-found.ensures.none)
