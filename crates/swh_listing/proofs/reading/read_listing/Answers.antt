use Rattle.std.proofs.Common.{ℕ, List, [], ◌∷◌, ◌++◌, sym, subst, arith, ◌∙◌}
use Rattle.swh_fastlex.specs.Line.{unread}
use Rattle.swh_listing.specs.declared.listed.Listed.{Listed}
use Rattle.swh_listing.specs.Listing.{Reads}
use Rattle.swh_listing.proofs.Readings.{one_more, none_left}
use Rattle.swh_listing.proofs.reading.read_listing.Goals as goal

pub lines-preserved : goal.lines-preserved
lines-preserved g c =
    let next = c.in_ok-listed.ensures in
    let whole = g.S.Source.left c.args.source.now in
    let rest = unread c.next_listed.new.window (g.S.Source.left c.next_listed.new.source) in
    let onward = rw c.in-Some.is at next.onward in
    let within = rw c.in-Some.is at next.within in
    record {
      reads = λ sure.
          let t = rw c.in-Some.is at (next.some sure) in
          let more = one_more 0 whole c.lines.lines.items c.lines.window.place (unread c.lines.window (g.S.Source.left c.lines.source)) t.line rest c.in-Some.listed (c.lines.invariant.reads sure) t.takes t.says in
          subst (λ (lines : List Listed). Reads 0 whole lines c.next_listed.new.window.place rest) (sym c.in_ok-push.ensures.items) (subst (λ (n : ℕ). Reads 0 whole (c.lines.lines.items ++ c.in-Some.listed ∷ []) n rest) (sym t.here) more);
      within = within;
      count = omega (arith, c.in_ok-push.ensures.len, onward, c.lines.invariant.count);
      same_path = next.on.same_path ∙ c.lines.invariant.same_path;
      quiet = next.on.quiet (λ h. cc) ∙ c.lines.invariant.quiet;
    }

pub returns-clause-whole : goal.returns-clause-whole
returns-clause-whole g c = λ sure.
    let end = rw c.in_default.is at (c.in_ok-listed.ensures.none sure) in
    none_left c.next_listed.new.window.bytes (g.S.Source.left c.next_listed.new.source) end.nothing_now
