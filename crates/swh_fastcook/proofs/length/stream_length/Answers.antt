use Rattle.std.proofs.Common.{List, [], refl, sym, subst}
use Rattle.std.specs.Prelude.{Contains}
use Rattle.swh_base.specs.declared.name.Name.{Name}
use Rattle.swh_graph.specs.Path.{directory_name}
use Rattle.swh_pathwalk.specs.Held.{IsHeldOrder}
use Rattle.swh_postorder.proofs.Orders.{order_are}
use Rattle.swh_fastcarried.specs.Rules.{IsOddObject}
use Rattle.swh_fastcook.proofs.FileWalks.{files_of}
use Rattle.swh_fastcook.proofs.Lengths.{stream_counted}
use Rattle.swh_fastcook.proofs.length.stream_length.Goals as goal

pub path_sums-requires-clause-order : goal.path_sums-requires-clause-order
path_sums-requires-clause-order g c =
    subst (IsHeldOrder (g.L.Graph.children_of c.args.look.now)) (sym c.order.ensures) (record { some = record { root = c.args.root; is = c.requires.order }; preceded = c.requires.preceded })

pub path_sums-requires-clause-may : goal.path_sums-requires-clause-may
path_sums-requires-clause-may g c id entries e there holds is =
    files_of (g.L.Look.archive c.args.look.now).bodies (g.L.Graph.children_of c.args.look.now) c.is_graph.ensures c.args.marks.now c.requires.preceded id entries e
    (subst (λ (ns : List Name). Contains ns (directory_name id)) c.order.ensures there) holds is

pub each_length-requires-clause-sums : goal.each_length-requires-clause-sums
each_length-requires-clause-sums g c = rw c.order.ensures at c.in_ok-sums.ensures

pub each_length-requires-clause-there : goal.each_length-requires-clause-there
each_length-requires-clause-there g c n there = subst (λ (ns : List Name). Contains ns n) c.order-2.ensures there

pub each_length-requires-clause-plain : goal.each_length-requires-clause-plain
each_length-requires-clause-plain g c n there = c.requires.plain n (subst (λ (ns : List Name). Contains ns n) c.order-2.ensures there)

pub end_length-requires-clause-there : goal.end_length-requires-clause-there
end_length-requires-clause-there g c = (order_are (g.L.Graph.children_of c.args.look.now) c.args.root c.args.marks.now c.requires.order c.args.root).1 ([], refl)

pub returns : goal.returns
returns g c =
    stream_counted (g.L.Look.archive c.args.look.now).bodies c.args.marks.now c.args.root c.in_ok-objects.objects c.in_ok-end.end c.plus.result c.plus-2.result
    (rw c.order-2.ensures at c.in_ok-objects.ensures) c.in_ok-end.ensures c.plus.ensures c.plus-2.ensures
