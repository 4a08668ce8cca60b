use Rattle.std.proofs.Common.{◌≡◌, ◌≢◌, ◌∙◌, ◌++◌, List, ℕ, refl, sym, ap, subst}
use Rattle.swh_base.specs.declared.kind.Kind.{Kind}
use Rattle.swh_base.specs.declared.kind.Kind.TheVariants.{Content, Directory}
use Rattle.swh_outside.specs.Sink.{TakesSome}
use Rattle.swh_fastcook.proofs.Cooked.{missing_first, content_carried, content_text, not_snapshot}
use Rattle.swh_cook.proofs.Files.{carried_name, makes_file, makes_none, makes_put, breaks_off}
use Rattle.swh_cook.proofs.file.cook_content.Goals as goal

apart : (kind : Kind) → kind ≡ Content → kind ≢ Directory
apart kind is e = let f : Content ≡ Directory = sym is ∙ e in cc

pub returns-in_default-clause-err : goal.returns-in_default-clause-err
returns-in_default-clause-err g c = (missing_first (g.L.Look.archive c.args.look.now).bodies (g.L.Graph.children_of c.args.look.now) c.is_graph.ensures c.args.name c.in_default.ensures.not_held, refl)

pub returns-in-Err-clause-err : goal.returns-in-Err-clause-err
returns-in-Err-clause-err g c =
    let bodies = (g.L.Look.archive c.args.look.now).bodies in
    let children = g.L.Graph.children_of c.args.look.now in
    let body = c.in-Some.body.now in
    let other = apart c.args.name.kind c.requires in
    let carried = content_carried bodies children c.is_graph.ensures c.args.name c.requires body c.in-Some.ensures.held in
    let is = content_text bodies children c.is_graph.ensures c.args.name c.requires body c.in-Some.ensures.held in
    let refused = c.in-Err.ensures in
    breaks_off bodies children c.args.name other c.args.out.now g.Y.Sink.tells _ _ _ (g.Y.Sink.faults c.args.yard.now) (g.Y.Sink.faults c.begin_file.new.yard) c.in-Err.fault refused.cause.failed
    (record {
      carried = carried_name bodies children c.args.name other carried;
      made = λ t. makes_none bodies children c.args.name other c.args.out.now body is _ _ _ _ (refused.refused t) (refused.same_taken t);
    })

pub returns-in-Ok-clause-ok : goal.returns-in-Ok-clause-ok
returns-in-Ok-clause-ok g c =
    let bodies = (g.L.Look.archive c.args.look.now).bodies in
    let children = g.L.Graph.children_of c.args.look.now in
    let body = c.in-Some.body.now in
    let other = apart c.args.name.kind c.requires in
    let carried = content_carried bodies children c.is_graph.ensures c.args.name c.requires body c.in-Some.ensures.held in
    let is = content_text bodies children c.is_graph.ensures c.args.name c.requires body c.in-Some.ensures.held in
    let begun = c.in_default-begin_file.ensures in
    let put = rw c.as_slice.ensures at c.in-Ok.ensures.bytes in
    record {
      carried = carried_name bodies children c.args.name other carried;
      of_bytes = c.is_of_bytes.ensures;
      is_head = not_snapshot bodies children c.is_graph.ensures c.args.name c.requires body c.in-Some.ensures.held;
      made = λ t. makes_file bodies children c.args.name other c.args.out.now body is _ _ _ _
          (c.in-Ok.ensures.same_begun ∙ begun.begun t) ((put t).ok ∙ ap (λ (l : List ℕ). l ++ body) (begun.same_taken t));
    }

pub returns-in-Err-put-clause-err : goal.returns-in-Err-put-clause-err
returns-in-Err-put-clause-err g c =
    let bodies = (g.L.Look.archive c.args.look.now).bodies in
    let children = g.L.Graph.children_of c.args.look.now in
    let body = c.in-Some.body.now in
    let other = apart c.args.name.kind c.requires in
    let carried = content_carried bodies children c.is_graph.ensures c.args.name c.requires body c.in-Some.ensures.held in
    let is = content_text bodies children c.is_graph.ensures c.args.name c.requires body c.in-Some.ensures.held in
    let begun = c.in_default-begin_file.ensures in
    let put = rw c.as_slice.ensures at c.in-Err-put.ensures.bytes in
    record {
      carried = carried_name bodies children c.args.name other carried;
      made = λ t. makes_put bodies children c.args.name other c.args.out.now body is _ _ _ _
          (c.in-Err-put.ensures.same_begun ∙ begun.begun t)
          (subst (λ (l : List ℕ). TakesSome l body (g.Y.Sink.taken c.put.new.self)) (begun.same_taken t) ((put t).err));
    }
