use Rattle.swh_fastcook.proofs.Acyclic.{all_preceded}
use Rattle.swh_fastcook.proofs.Cooked.{carried_plain}
use Rattle.swh_cook_tests.proofs.stream_lengths.measured.Goals as goal

pub stream_length-requires-clause-preceded : goal.stream_length-requires-clause-preceded
stream_length-requires-clause-preceded g c =
    let ready = c.in-Ok.ensures.ok in
    all_preceded (g.L.Graph.children_of c.args.look.now) c.args.root c.in-Ok.ready.marks ready.is_order ready.carried.acyclic

pub stream_length-requires-clause-plain : goal.stream_length-requires-clause-plain
stream_length-requires-clause-plain g c =
    let ready = c.in-Ok.ensures.ok in
    carried_plain (g.L.Look.archive c.args.look.now).bodies c.args.root c.in-Ok.ready.marks ready.carried.none
