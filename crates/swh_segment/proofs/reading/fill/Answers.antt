use Rattle.std.proofs.Common.{◌≡◌, ◌+◌, ◌-◌, ◌≤◌, ℕ, List, length, take, drop, sym, ◌∙◌, ap, subst, arith, length-drop}
use Rattle.std.proofs.lemmas.List.{drop-drop}
use Rattle.std.proofs.lemmas.Grind.{common_steps}
use Rattle.swh_outside.specs.Disk.{File, IsReadAt}
use Rattle.swh_segment.proofs.Pieces.{one_piece_more, length-put_mid}
use Rattle.swh_segment.proofs.reading.fill.Goals as goal

pub loop-done-preserved : goal.loop-done-preserved
loop-done-preserved g c =
    let i = c.loop-done.invariant in
    let seen = (g.D.Disk.file c.args.disk.now).seen in
    let want = drop c.args.at seen in
    let size : length c.read_at.new.out ≡ length c.loop-done.out - c.loop-done.done = grind (arith, common_steps, c.read_at.auto.out) in
    let le : c.in_ok-count.count ≤ length c.loop-done.out - c.loop-done.done = omega (arith, c.in_ok-count.ensures.bound, size) in
    record {
      in_range = omega (arith, le, size, i.in_range, length-put_mid c.loop-done.done (length c.loop-done.out - c.loop-done.done) c.loop-done.out c.read_at.new.out i.in_range size);
      same = λ told. c.in_ok-count.ensures.same told ∙ i.same told;
      filled = λ told.
          let read : IsReadAt seen (c.args.at + c.loop-done.done) c.in_ok-count.count c.read_at.new.out =
          subst (λ (f : File). IsReadAt f.seen (c.args.at + c.loop-done.done) c.in_ok-count.count c.read_at.new.out) (i.same told) (c.in_ok-count.ensures.bytes told) in
          one_piece_more c.loop-done.out c.read_at.new.out want c.loop-done.done c.in_ok-count.count _ i.in_range size le (i.filled told) (i.inside told)
          (read.bytes ∙ ap (λ (l : List ℕ). take c.in_ok-count.count l) (sym (drop-drop c.loop-done.done c.args.at seen)));
      inside = λ told.
          let read : IsReadAt seen (c.args.at + c.loop-done.done) c.in_ok-count.count c.read_at.new.out =
          subst (λ (f : File). IsReadAt f.seen (c.args.at + c.loop-done.done) c.in_ok-count.count c.read_at.new.out) (i.same told) (c.in_ok-count.ensures.bytes told) in
          omega (arith, read.within, i.inside told, length-drop c.args.at seen);
      quiet = c.in_ok-count.ensures.cause.quiet ∙ i.quiet;
    }
