use Rattle.std.proofs.Common.{rules, arith, ◌≡◌, ◌++◌, ◌∷◌, [], List, ℕ, length, length-append, refl, sym, ap, ◌∙◌}
use Rattle.swh_fastlex.specs.Line.{unread}
use Rattle.swh_fastlex.proofs.DelimitedLines.{one_more_line, read_on, takes_more}
use Rattle.swh_fastlex.proofs.Windows.{lost_more, lost_line, lost_err}
use Rattle.swh_fastlex.proofs.delimited.next_delimited.Goals as goal

pub returns-in_err-line-clause-loses : goal.returns-in_err-line-clause-loses
returns-in_err-line-clause-loses g c = λ told.
    lost_err c.from_residual.result _ _ (lost_more (unread c.args.window.now (g.S.Source.left c.args.source.now)) c.lines.bytes.items (unread c.lines.window (g.S.Source.left c.lines.source)) (unread c.next_line.new.window (g.S.Source.left c.next_line.new.source)) (c.lines.invariant.text told) (c.in_err-line.ensures.loses told))

pub returns-then-len-limit-clause-fault : goal.returns-then-len-limit-clause-fault
returns-then-len-limit-clause-fault g c = λ told.
    let line = rw c.in-Some.is at c.in_ok-line.ensures.line in
    let short = rw c.in-Some.is at c.in_ok-line.ensures.within in
    let took = c.in_ok-line.ensures.taken told in
    let taken = rw c.in-Some.is at took in
    let other : c.in-Some.line.items ≡ c.args.word.now ++ 10 ∷ [] → ⊥ = λ e. let yes = c.if-is_word_line.ensures.1 (c.as_slice.ensures.value ∙ e) in let no = c.if-is_word_line.false in cc in
    record {
      bytes = c.lines.bytes.items;
      last = c.in-Some.line.items;
      lines = one_more_line c.args.word.now c.lines.bytes.items c.in-Some.line.items _ c.lines.invariant.lines line short other refl;
      line = line;
      within = c.lines.invariant.within;
      above = omega (arith, c.if-len-limit.true, c.len.ensures, c.len-in-lines.ensures, c.lines.invariant.within, length-append c.lines.bytes.items c.in-Some.line.items);
      taken = takes_more c.args.window.now c.lines.window c.next_line.new.window (g.S.Source.left c.args.source.now) (g.S.Source.left c.lines.source) (g.S.Source.left c.next_line.new.source) c.lines.bytes.items c.in-Some.line.items (c.lines.invariant.text told) c.lines.invariant.counted taken;
    }

pub returns-then-len-limit-clause-loses : goal.returns-then-len-limit-clause-loses
returns-then-len-limit-clause-loses g c = λ told.
    let took = c.in_ok-line.ensures.taken told in
    let taken = rw c.in-Some.is at took in
    let all = unread c.args.window.now (g.S.Source.left c.args.source.now) in
    let now = unread c.next_line.new.window (g.S.Source.left c.next_line.new.source) in
    lost_line all (c.lines.bytes.items ++ c.in-Some.line.items) now (read_on all c.lines.bytes.items c.in-Some.line.items (unread c.lines.window (g.S.Source.left c.lines.source)) now (c.lines.invariant.text told) taken.cut)

pub returns-in_err-extend_from_slice-clause-loses : goal.returns-in_err-extend_from_slice-clause-loses
returns-in_err-extend_from_slice-clause-loses g c = λ told.
    let took = c.in_ok-line.ensures.taken told in
    let taken = rw c.in-Some.is at took in
    let all = unread c.args.window.now (g.S.Source.left c.args.source.now) in
    let now = unread c.next_line.new.window (g.S.Source.left c.next_line.new.source) in
    lost_err c.from_residual-in_err-extend_from_slice.result _ _ (lost_line all (c.lines.bytes.items ++ c.in-Some.line.items) now (read_on all c.lines.bytes.items c.in-Some.line.items (unread c.lines.window (g.S.Source.left c.lines.source)) now (c.lines.invariant.text told) taken.cut))

pub lines-preserved : goal.lines-preserved
lines-preserved g c =
    let line = rw c.in-Some.is at c.in_ok-line.ensures.line in
    let short = rw c.in-Some.is at c.in_ok-line.ensures.within in
    let counted = rw c.in-Some.is at c.in_ok-line.ensures.counted in
    let other : c.in-Some.line.items ≡ c.args.word.now ++ 10 ∷ [] → ⊥ = λ e. let yes = c.if-is_word_line.ensures.1 (c.as_slice.ensures.value ∙ e) in let no = c.if-is_word_line.false in cc in
    let joined : c.extend_from_slice.new.self.items ≡ c.lines.bytes.items ++ c.in-Some.line.items = search rules in
    let long = ap length joined ∙ length-append c.lines.bytes.items c.in-Some.line.items in
    record {
      lines = one_more_line c.args.word.now c.lines.bytes.items c.in-Some.line.items _ c.lines.invariant.lines line short other joined;
      text = λ told. let took = c.in_ok-line.ensures.taken told in
          let taken = rw c.in-Some.is at took in
          read_on (unread c.args.window.now (g.S.Source.left c.args.source.now)) c.lines.bytes.items c.in-Some.line.items (unread c.lines.window (g.S.Source.left c.lines.source)) (unread c.next_line.new.window (g.S.Source.left c.next_line.new.source)) (c.lines.invariant.text told) taken.cut
          ∙ ap (λ (t : List ℕ). t ++ unread c.next_line.new.window (g.S.Source.left c.next_line.new.source)) (sym joined);
      counted = omega (arith, counted, long, c.lines.invariant.counted);
      within = omega (arith, long, c.if-len-limit.false, c.len.ensures, c.len-in-lines.ensures, c.lines.invariant.within);
      same_path = c.in_ok-line.ensures.on.same_path ∙ c.lines.invariant.same_path;
      quiet = c.in_ok-line.ensures.on.quiet (λ h. cc) ∙ c.lines.invariant.quiet;
    }
