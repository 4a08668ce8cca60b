use Rattle.std.proofs.Common.{◌∙◌, ◌++◌, List, ℕ, ap, subst}
use Rattle.swh_fastwrite.specs.Sinks.{IsTaken}
use Rattle.swh_fastcook.proofs.Acyclic.{all_preceded}
use Rattle.swh_fastcook.proofs.Cooked.{carried_plain, ready_carried, stream_text}
use Rattle.swh_cook.proofs.Files.{carried_name, makes_file, makes_none, makes_front, breaks_off}
use Rattle.swh_cook.proofs.file.cook_stream.Goals as goal

pub returns-in-Err-begin_file-clause-err : goal.returns-in-Err-begin_file-clause-err
returns-in-Err-begin_file-clause-err g c =
    let bodies = (g.L.Look.archive c.args.look.now).bodies in
    let children = g.L.Graph.children_of c.args.look.now in
    let other = c.requires.directory in
    let ready = c.in-Ok.ensures.ok in
    let t = ready.has_text in
    let carried = ready_carried bodies children c.args.name c.requires.content c.in-Ok.ready.marks c.in-Ok.ready.head ready in
    let is = stream_text bodies children c.args.name c.requires.content c.in-Ok.ready.marks c.in-Ok.ready.head ready t.text t.is in
    let refused = c.in-Err-begin_file.ensures in
    breaks_off bodies children c.args.name other c.args.out.now g.Y.Sink.tells _ _ _ (g.Y.Sink.faults c.args.yard.now) (g.Y.Sink.faults c.begin_file.new.yard) c.in-Err-begin_file.fault refused.cause.failed
    (record {
      carried = carried_name bodies children c.args.name other carried;
      made = λ told. makes_none bodies children c.args.name other c.args.out.now t.text is _ _ _ _ (refused.refused told) (refused.same_taken told);
    })

pub write_stream-requires-clause-preceded : goal.write_stream-requires-clause-preceded
write_stream-requires-clause-preceded g c =
    let ready = c.in-Ok.ensures.ok in
    all_preceded (g.L.Graph.children_of c.args.look.now) c.args.name c.in-Ok.ready.marks ready.is_order ready.carried.acyclic

pub write_stream-requires-clause-plain : goal.write_stream-requires-clause-plain
write_stream-requires-clause-plain g c =
    let ready = c.in-Ok.ensures.ok in
    carried_plain (g.L.Look.archive c.args.look.now).bodies c.args.name c.in-Ok.ready.marks ready.carried.none

pub returns-in-Ok-write_stream-clause-ok : goal.returns-in-Ok-write_stream-clause-ok
returns-in-Ok-write_stream-clause-ok g c =
    let bodies = (g.L.Look.archive c.args.look.now).bodies in
    let children = g.L.Graph.children_of c.args.look.now in
    let other = c.requires.directory in
    let wrote = c.in-Ok-write_stream.ensures.ok in
    let carried = ready_carried bodies children c.args.name c.requires.content c.in-Ok.ready.marks c.in-Ok.ready.head c.in-Ok.ensures.ok in
    let is = stream_text bodies children c.args.name c.requires.content c.in-Ok.ready.marks c.in-Ok.ready.head c.in-Ok.ensures.ok wrote.0 wrote.1 in
    let begun = c.in_default.ensures in
    record {
      carried = carried_name bodies children c.args.name other carried;
      of_bytes = c.is_of_bytes.ensures;
      is_head = c.in-Ok.ensures.ok.is_head;
      made = λ told. makes_file bodies children c.args.name other c.args.out.now wrote.0 is _ _ _ _
          (wrote.2.begun_same ∙ begun.begun told) (wrote.2.bytes told ∙ ap (λ (l : List ℕ). l ++ wrote.0) (begun.same_taken told));
    }

pub returns-in-Err-write_stream-clause-err : goal.returns-in-Err-write_stream-clause-err
returns-in-Err-write_stream-clause-err g c =
    let bodies = (g.L.Look.archive c.args.look.now).bodies in
    let children = g.L.Graph.children_of c.args.look.now in
    let other = c.requires.directory in
    let ready = c.in-Ok.ensures.ok in
    let t = ready.has_text in
    let carried = ready_carried bodies children c.args.name c.requires.content c.in-Ok.ready.marks c.in-Ok.ready.head ready in
    let is = stream_text bodies children c.args.name c.requires.content c.in-Ok.ready.marks c.in-Ok.ready.head ready t.text t.is in
    let begun = c.in_default.ensures in
    let failed = c.in-Err-write_stream.ensures in
    let some = failed.err t.text t.is in
    breaks_off bodies children c.args.name other c.args.out.now g.Y.Sink.tells _ _ _ (g.Y.Sink.faults c.begin_file.new.yard) (g.Y.Sink.faults c.write_stream.new.taker) c.in-Err-write_stream.fault failed.cause.failed
    (record {
      carried = carried_name bodies children c.args.name other carried;
      made = λ told. makes_front bodies children c.args.name other c.args.out.now t.text is _ _ _ _
          (some.begun_same ∙ begun.begun told)
          (subst (λ (l : List ℕ). IsTaken l t.text (g.Y.Sink.taken c.write_stream.new.taker)) (begun.same_taken told) (some.bytes told));
    })
