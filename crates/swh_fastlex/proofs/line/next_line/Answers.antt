use Rattle.std.proofs.Common.{arith, ◌++◌, List, ℕ, Contains, sym, ap, ◌∙◌, subst}
use Rattle.swh_fastlex.specs.Line.{Held, IsLine, unread}
use Rattle.swh_fastlex.proofs.Windows.{line_joined, none_joined, moved_text, moved_length, lost_more, lost_line, lost_err}
use Rattle.swh_fastlex.proofs.line.next_line.Goals as goal

pub returns-in_err-fill-clause-loses : goal.returns-in_err-fill-clause-loses
returns-in_err-fill-clause-loses g c = λ told.
    lost_err c.from_residual.result _ _ (lost_more (unread c.args.window.now (g.S.Source.left c.args.source.now)) c.pieces.line.items (unread c.pieces.window (g.S.Source.left c.pieces.source)) (unread c.fill.new.self (g.S.Source.left c.fill.new.source)) (c.pieces.invariant.text told) (c.in_err-fill.ensures.loses told))

pub returns-in_err-fill-2-clause-loses : goal.returns-in_err-fill-2-clause-loses
returns-in_err-fill-2-clause-loses g c = λ told.
    lost_err c.from_residual-in_err-fill-2.result _ _ (lost_more (unread c.args.window.now (g.S.Source.left c.args.source.now)) c.pieces.line.items (unread c.pieces.window (g.S.Source.left c.pieces.source)) (unread c.fill-2.new.self (g.S.Source.left c.fill-2.new.source)) (c.pieces.invariant.text told) (c.in_err-fill-2.ensures.loses told))

pub returns-then-not-branch-clause-loses : goal.returns-then-not-branch-clause-loses
returns-then-not-branch-clause-loses g c = λ told.
    lost_err c.if-is_empty.result _ _ (lost_line (unread c.args.window.now (g.S.Source.left c.args.source.now)) c.pieces.line.items (unread c.fill.new.self (g.S.Source.left c.fill.new.source)) (c.pieces.invariant.text told ∙ ap (λ (t : List ℕ). c.pieces.line.items ++ t) (sym (c.in_ok-fill.ensures.kept told))))

pub returns-in_err-move_front-clause-loses : goal.returns-in_err-move_front-clause-loses
returns-in_err-move_front-clause-loses g c = λ told.
    lost_err c.from_residual-in_err-move_front.result _ _ (lost_line (unread c.args.window.now (g.S.Source.left c.args.source.now)) c.pieces.line.items (unread c.move_front.new.window (g.S.Source.left c.fill.new.source)) (c.pieces.invariant.text told ∙ ap (λ (t : List ℕ). c.pieces.line.items ++ t) (sym (c.in_ok-fill.ensures.kept told) ∙ ap (λ (w : Held). unread w (g.S.Source.left c.fill.new.source)) (sym c.in_err-move_front.ensures.same))))

pub returns-then-branch-clause-line : goal.returns-then-branch-clause-line
returns-then-branch-clause-line g c =
    let moved = c.in_ok-move_front.ensures.moved in
    let stops = rw c.if-branch.true at moved.stops in
    subst IsLine (sym moved.joined) (line_joined c.pieces.line.items moved.front c.pieces.invariant.no_feed stops)

pub pieces-preserved : goal.pieces-preserved
pieces-preserved g c =
    let moved = c.in_ok-move_front.ensures.moved in
    let stops = rw c.if-branch.false at moved.stops in
    let long = moved_length c.pieces.line.items c.move_front.new.line.items c.fill.new.self c.move_front.new.window _ _ moved in
    record {
      no_feed = subst (λ (t : List ℕ). Contains t 10 → ⊥) (sym moved.joined) (none_joined c.pieces.line.items moved.front 10 c.pieces.invariant.no_feed stops);
      text = λ told. moved_text (unread c.args.window.now (g.S.Source.left c.args.source.now)) c.pieces.line.items c.move_front.new.line.items (unread c.pieces.window (g.S.Source.left c.pieces.source)) (g.S.Source.left c.fill.new.source) c.fill.new.self c.move_front.new.window _ _ (c.pieces.invariant.text told) (c.in_ok-fill.ensures.kept told) moved;
      counted = omega (arith, long, moved.counted, c.in_ok-fill.ensures.same_place, c.pieces.invariant.counted);
      within = omega (arith, long, moved.within, c.pieces.invariant.within, c.len-room.ensures);
      same_path = c.in_ok-fill.ensures.same_path ∙ c.pieces.invariant.same_path;
      quiet = c.in_ok-fill.ensures.cause.quiet ∙ c.pieces.invariant.quiet;
    }
