use Rattle.std.proofs.Common.{arith, ◌++◌, List, ℕ, sym, ap, ◌∙◌}
use Rattle.swh_fastlex.specs.Line.{Held, unread}
use Rattle.swh_fastlex.proofs.Windows.{moved_bytes, moved_count, lost_more, lost_line, lost_err}
use Rattle.swh_fastlex.proofs.counted.next_data.Goals as goal

pub returns-in_err-fill-clause-loses : goal.returns-in_err-fill-clause-loses
returns-in_err-fill-clause-loses g c = λ told.
    lost_err c.from_residual-in_err-fill.result _ _ (lost_more (unread c.args.window.now (g.S.Source.left c.args.source.now)) c.pieces.bytes.items (unread c.pieces.window (g.S.Source.left c.pieces.source)) (unread c.fill.new.self (g.S.Source.left c.fill.new.source)) (c.pieces.invariant.text told) (c.in_err-fill.ensures.loses told))

pub returns-in_err-move_bytes-clause-loses : goal.returns-in_err-move_bytes-clause-loses
returns-in_err-move_bytes-clause-loses g c = λ told.
    lost_err c.from_residual-in_err-move_bytes.result _ _ (lost_line (unread c.args.window.now (g.S.Source.left c.args.source.now)) c.pieces.bytes.items (unread c.move_bytes.new.window (g.S.Source.left c.fill.new.source)) (c.pieces.invariant.text told ∙ ap (λ (t : List ℕ). c.pieces.bytes.items ++ t) (sym (c.in_ok-fill.ensures.kept told) ∙ ap (λ (w : Held). unread w (g.S.Source.left c.fill.new.source)) (sym c.in_err-move_bytes.ensures.same))))

pub pieces-preserved : goal.pieces-preserved
pieces-preserved g c =
    let moved = c.in_ok-move_bytes.ensures.moved in
    let long = moved_count c.pieces.bytes.items c.move_bytes.new.bytes.items c.fill.new.self c.move_bytes.new.window _ moved in
    record {
      text = λ told. moved_bytes (unread c.args.window.now (g.S.Source.left c.args.source.now)) c.pieces.bytes.items c.move_bytes.new.bytes.items (unread c.pieces.window (g.S.Source.left c.pieces.source)) (g.S.Source.left c.fill.new.source) c.fill.new.self c.move_bytes.new.window _ (c.pieces.invariant.text told) (c.in_ok-fill.ensures.kept told) moved;
      counted = omega (arith, long, moved.counted, c.in_ok-fill.ensures.same_place, c.pieces.invariant.counted);
      within = omega (arith, long, moved.within, c.pieces.invariant.within, c.len-in-pieces.ensures);
      same_path = c.in_ok-fill.ensures.same_path ∙ c.pieces.invariant.same_path;
      quiet = c.in_ok-fill.ensures.cause.quiet ∙ c.pieces.invariant.quiet;
    }
