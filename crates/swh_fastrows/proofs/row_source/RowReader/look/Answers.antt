use Rattle.std.proofs.Common.{arith, ◌≡◌, [], true, subst, sym, ap, ◌∙◌}
use Rattle.swh_fastrows.specs.Places.{ReaderState, Took}
use Rattle.swh_fastgrammar.specs.Row.{is_comment}
use Rattle.swh_fastrows.proofs.HeldLines.{skipped}
use Rattle.swh_fastrows.proofs.Joins.{took_append}
use Rattle.swh_fastrows.proofs.row_source.RowReader.look.Goals as goal

pub comments-preserved : goal.comments-preserved
comments-preserved g c =
    let ahead = rw c.in-Line.is at c.in_ok-ahead.ensures.ahead in
    let comment : is_comment c.line.result.now ≡ true = sym c.is_comment.ensures ∙ c.if-not-is_comment.false in
    let at = ap (λ (p : ReaderState). p.at) c.take.ensures in
    let faults = ap (λ (p : ReaderState). p.faults) c.take.ensures in
    record {
      took = λ told. took_append c.args.self.now c.comments.self c.take.new.self [] [] (c.comments.invariant.took told) (subst (λ (p : ReaderState). Took c.comments.self p []) (sym c.take.ensures) (skipped c.comments.self c.hold.new.self c.line.result.now (c.in_ok-ahead.ensures.kept told) c.in_ok-ahead.ensures.same_place c.line.ensures ahead.0 ahead.1 ahead.2 comment));
      onward = omega (arith, at, c.comments.invariant.onward, c.in_ok-ahead.ensures.onward);
      same_path = ap (λ (p : ReaderState). p.path) c.take.ensures ∙ c.in_ok-ahead.ensures.on.same_path ∙ c.comments.invariant.same_path;
      quiet = faults ∙ c.in_ok-ahead.ensures.on.quiet (λ h. cc) ∙ c.comments.invariant.quiet;
    }
