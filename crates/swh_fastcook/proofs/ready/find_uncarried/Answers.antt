use Rattle.std.proofs.Common.{List, sym, subst}
use Rattle.std.specs.Prelude.{Contains}
use Rattle.swh_base.specs.declared.name.Name.{Name}
use Rattle.swh_postorder.specs.Cycle.{ArePreceded}
use Rattle.swh_marks.specs.Marks.{StandOnce}
use Rattle.swh_fastcook.specs.Length.{IsLongStream}
use Rattle.swh_fastcook.proofs.Acyclic.{all_once}
use Rattle.swh_fastcook.proofs.EndTexts.{not_so}
use Rattle.swh_fastcook.proofs.Judged.{all_held, found_whole, root_long, none_long, none_odd}
use Rattle.swh_fastcook.proofs.ready.find_uncarried.Goals as goal

pub loads_many-requires : goal.loads_many-requires
loads_many-requires g c =
    λ n there. all_held (g.L.Look.archive c.args.look.now).bodies (g.L.Graph.children_of c.args.look.now) c.is_graph.ensures c.args.root c.args.marks.now c.requires.order n (subst (λ (ns : List Name). Contains ns n) c.order.ensures there)

pub first_uncarried-requires-clause-preceded : goal.first_uncarried-requires-clause-preceded
first_uncarried-requires-clause-preceded g c = subst (ArePreceded (g.L.Graph.children_of c.args.look.now)) (sym c.order-2.ensures) c.requires.preceded

pub first_uncarried-requires-clause-once : goal.first_uncarried-requires-clause-once
first_uncarried-requires-clause-once g c = subst StandOnce (sym c.order-2.ensures) (all_once (g.L.Graph.children_of c.args.look.now) c.args.root c.args.marks.now c.requires.order)

pub returns-in-Some-clause-found : goal.returns-in-Some-clause-found
returns-in-Some-clause-found g c =
    found_whole (g.L.Look.archive c.args.look.now).bodies (g.L.Graph.children_of c.args.look.now) c.args.root c.args.marks.now c.requires.order c.in_ok-many.many (rw c.order.ensures at c.in_ok-many.ensures) c.in-Some.found.0 c.in-Some.found.1
    (rw c.in-Some.is at (rw c.order-2.ensures at c.in_ok-found.ensures))

pub is_long_stream-requires-clause-plain : goal.is_long_stream-requires-clause-plain
is_long_stream-requires-clause-plain g c =
    none_odd (g.L.Look.archive c.args.look.now).bodies (g.L.Graph.children_of c.args.look.now) c.args.root c.args.marks.now c.requires.order c.in_ok-many.many (rw c.order.ensures at c.in_ok-many.ensures)
    (rw c.in_default.is at (rw c.order-2.ensures at c.in_ok-found.ensures))

pub returns-then-branch-clause-found : goal.returns-then-branch-clause-found
returns-then-branch-clause-found g c =
    root_long (g.L.Look.archive c.args.look.now).bodies (g.L.Graph.children_of c.args.look.now) c.args.root c.args.marks.now c.requires.order c.in_ok-many.many (rw c.order.ensures at c.in_ok-many.ensures)
    (rw c.in_default.is at (rw c.order-2.ensures at c.in_ok-found.ensures)) (c.requires.kind, c.in_ok-is_long_stream.ensures.long.0 c.if-branch.true)

pub returns-clause-found : goal.returns-clause-found
returns-clause-found g c =
    let bodies = (g.L.Look.archive c.args.look.now).bodies in
    none_long bodies (g.L.Graph.children_of c.args.look.now) c.args.root c.args.marks.now c.requires.order c.in_ok-many.many (rw c.order.ensures at c.in_ok-many.ensures)
    (rw c.in_default.is at (rw c.order-2.ensures at c.in_ok-found.ensures))
    (λ long. not_so c.in_ok-is_long_stream.field-0 (IsLongStream bodies c.args.marks.now c.args.root) c.in_ok-is_long_stream.ensures.long c.if-branch.false long.1)
