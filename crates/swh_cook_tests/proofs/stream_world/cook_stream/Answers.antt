use Rattle.swh_fastcook.proofs.Acyclic.{all_preceded}
use Rattle.swh_fastcook.proofs.Cooked.{carried_plain}
use Rattle.swh_cook_tests.proofs.stream_world.cook_stream.Goals as goal

pub write_stream-requires-clause-preceded : goal.write_stream-requires-clause-preceded
write_stream-requires-clause-preceded g c =
    let ready = c.in-Ok.ensures.ok in
    all_preceded (g.L.Graph.children_of c.args.look.now) c.args.root c.in-Ok.ready.marks ready.is_order ready.carried.acyclic

pub write_stream-requires-clause-plain : goal.write_stream-requires-clause-plain
write_stream-requires-clause-plain g c =
    let ready = c.in-Ok.ensures.ok in
    carried_plain (g.L.Look.archive c.args.look.now).bodies c.args.root c.in-Ok.ready.marks ready.carried.none
