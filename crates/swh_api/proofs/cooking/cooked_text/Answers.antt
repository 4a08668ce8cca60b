use Rattle.std.proofs.Common.{◌≡◌, ℕ, List, ◌++◌, ap, ◌∙◌}
use Rattle.swh_fastcook.proofs.Acyclic.{all_preceded}
use Rattle.swh_fastcook.proofs.Cooked.{carried_plain}
use Rattle.swh_api.proofs.Cooks.{not_ready, written}
use Rattle.swh_api.proofs.cooking.cooked_text.Goals as goal

pub returns-in-Err-clause-err : goal.returns-in-Err-clause-err
returns-in-Err-clause-err g c =
    not_ready (g.L.Look.archive c.args.look.now).bodies (g.L.Graph.children_of c.args.look.now) c.is_graph.ensures c.args.name c.in-Err.fault c.in-Err.ensures.err

pub write_stream-requires-clause-preceded : goal.write_stream-requires-clause-preceded
write_stream-requires-clause-preceded g c =
    let ready = c.in-Ok.ensures.ok in
    all_preceded (g.L.Graph.children_of c.args.look.now) c.args.name c.in-Ok.ready.marks ready.is_order ready.carried.acyclic

pub write_stream-requires-clause-plain : goal.write_stream-requires-clause-plain
write_stream-requires-clause-plain g c =
    let ready = c.in-Ok.ensures.ok in
    carried_plain (g.L.Look.archive c.args.look.now).bodies c.args.name c.in-Ok.ready.marks ready.carried.none

pub returns-in-Ok-write_stream-clause-ok : goal.returns-in-Ok-write_stream-clause-ok
returns-in-Ok-write_stream-clause-ok g c =
    let wrote = c.in-Ok-write_stream.ensures.ok in
    written (g.L.Look.archive c.args.look.now).bodies (g.L.Graph.children_of c.args.look.now) c.is_graph.ensures c.args.name c.requires c.in-Ok.ready.marks c.in-Ok.ready.head c.in-Ok.ensures.ok c.is_of_bytes.ensures wrote.0 _ wrote.1
    (c.into_bytes.ensures ∙ wrote.2.bytes tt ∙ ap (λ (l : List ℕ). l ++ wrote.0) c.new-collected.ensures)
