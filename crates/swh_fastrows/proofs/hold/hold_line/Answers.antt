use Rattle.std.proofs.Common.{arith, inl, List, ℕ, Contains, sym, ◌∙◌, subst}
use Rattle.swh_fastlex.specs.Line.{IsLine, unread}
use Rattle.swh_fastlex.proofs.Windows.{line_joined, none_joined, moved_text, moved_length}
use Rattle.swh_fastrows.specs.Held.{before_limit}
use Rattle.swh_fastrows.proofs.HeldLines.{line_feeds, moved_few}
use Rattle.swh_fastrows.proofs.hold.hold_line.Goals as goal

pub returns-then-branch-clause-shape : goal.returns-then-branch-clause-shape
returns-then-branch-clause-shape g c =
    let moved = c.in_ok-move_front.ensures.moved in
    let stops = rw c.if-branch.true at moved.stops in
    inl (subst IsLine (sym moved.joined) (line_joined c.pieces.line.items moved.front c.pieces.invariant.no_feed stops))

pub returns-then-branch-clause-end : goal.returns-then-branch-clause-end
returns-then-branch-clause-end g c = λ told short none.
    let moved = c.in_ok-move_front.ensures.moved in
    let stops = rw c.if-branch.true at moved.stops in
    absurd (none (line_feeds c.move_front.new.line.items (subst IsLine (sym moved.joined) (line_joined c.pieces.line.items moved.front c.pieces.invariant.no_feed stops))))

pub pieces-preserved : goal.pieces-preserved
pieces-preserved g c =
    let moved = c.in_ok-move_front.ensures.moved in
    let stops = rw c.if-branch.false at moved.stops in
    let long = moved_length c.pieces.line.items c.move_front.new.line.items c.fill.new.self c.move_front.new.window _ _ moved in
    record {
      no_feed = subst (λ (t : List ℕ). Contains t 10 → ⊥) (sym moved.joined) (none_joined c.pieces.line.items moved.front 10 c.pieces.invariant.no_feed stops);
      text = λ told. moved_text (unread c.args.window.now (g.S.Source.left c.args.source.now)) c.pieces.line.items c.move_front.new.line.items (unread c.pieces.window (g.S.Source.left c.pieces.source)) (g.S.Source.left c.fill.new.source) c.fill.new.self c.move_front.new.window _ _ (c.pieces.invariant.text told) (c.in_ok-fill.ensures.kept told) moved;
      counted = omega (arith, long, moved.counted, c.in_ok-fill.ensures.same_place, c.pieces.invariant.counted);
      within = omega (arith, long, moved.within, c.pieces.invariant.within, c.len-room.ensures);
      few = moved_few c.pieces.line.items c.move_front.new.line.items c.fill.new.self c.move_front.new.window _ _ before_limit moved (omega arith);
      same_path = c.in_ok-fill.ensures.same_path ∙ c.pieces.invariant.same_path;
      quiet = c.in_ok-fill.ensures.cause.quiet ∙ c.pieces.invariant.quiet;
    }
