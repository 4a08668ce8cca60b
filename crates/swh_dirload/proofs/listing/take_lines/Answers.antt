use Rattle.std.proofs.Common.{◌≡◌, ℕ, List, ◌++◌, refl, sym, ap, ◌∙◌, subst, arith, rules}
use Rattle.swh_fastlex.specs.Line.{unread}
use Rattle.swh_dirload.specs.declared.taking.Taken.TheVariants.{Yes, No}
use Rattle.swh_dirload.specs.Faults.{listing_fault}
use Rattle.swh_dirload.specs.Lines.{IsTaken, ExplainsLines}
use Rattle.swh_dirload.proofs.Onward.{same_on, then_on}
use Rattle.swh_dirload.proofs.TakenLines.{Goes, begins, goes_on, goes_not, goes_wrong}
use Rattle.swh_dirload.proofs.listing.take_lines.Goals as goal

pub lines-init : goal.lines-init
lines-init g c =
    let first = c.in_ok-window.ensures.first in
    record {
      table = c.requires.table;
      index = c.requires.index;
      count = c.requires.count;
      within = omega (arith, first);
      some = omega arith;
      few = omega arith;
      goes = λ sure before stand.
          let text = g.S.Source.left c.args.source.now in
          let all : text ≡ unread c.in_ok-window.window text = ap (λ (held : List ℕ). held ++ text) (sym c.in_ok-window.ensures.empty) in
          subst (λ (n : ℕ). Goes before text n (unread c.in_ok-window.window text) 1 c.args.spots.now.items c.args.places.now.items) (sym first) (begins before text (unread c.in_ok-window.window text) c.args.spots.now.items c.args.places.now.items stand all);
      held = λ names h. h;
      onward = same_on c.args.spots.now.items c.args.places.now.items;
      same_path = refl;
      quiet = refl;
    }

pub lines-preserved : goal.lines-preserved
lines-preserved g c =
    let inv = c.lines.invariant in
    let next = c.in_ok-listed.ensures in
    let whole = g.S.Source.left c.args.source.now in
    let rest = unread c.next_listed.new.window (g.S.Source.left c.next_listed.new.source) in
    let onward = rw c.in-Some.is at next.onward in
    let within = rw c.in-Some.is at next.within in
    let some = inv.some in
    let few = inv.few in
    let done = c.in_ok-take_line.ensures in
    record {
      table = done.table;
      index = done.index;
      count = done.count;
      within = within;
      some = omega (arith, some);
      few = omega (arith, few, onward);
      goes = λ sure before stand.
          let t = rw c.in-Some.is at (next.some sure) in
          let so = inv.goes sure before stand in
          let taken : IsTaken so.places c.in-Some.listed.mode c.in-Some.listed.path c.take_line.new.spots.items c.take_line.new.places.items Yes = rw c.in-Yes.is at (done.taken so.places so.stand) in
          goes_on before whole c.lines.window.place (unread c.lines.window (g.S.Source.left c.lines.source)) c.lines.line c.lines.spots.items c.take_line.new.spots.items c.lines.places.items c.take_line.new.places.items t.line rest c.next_listed.new.window.place c.in-Some.listed so t.takes t.says t.here taken;
      held = λ names h. done.held names (inv.held names h);
      onward = then_on c.args.spots.now.items c.lines.spots.items c.take_line.new.spots.items c.args.places.now.items c.lines.places.items c.take_line.new.places.items inv.onward done.goes;
      same_path = next.on.same_path ∙ inv.same_path;
      quiet = next.on.quiet (λ h. cc) ∙ inv.quiet;
    }

pub returns-in-No-clause-err : goal.returns-in-No-clause-err
returns-in-No-clause-err g c = λ sure before stand.
    let t = rw c.in-Some.is at (c.in_ok-listed.ensures.some sure) in
    let so = c.lines.invariant.goes sure before stand in
    let rest = unread c.next_listed.new.window (g.S.Source.left c.next_listed.new.source) in
    let not_taken : IsTaken so.places c.in-Some.listed.mode c.in-Some.listed.path c.take_line.new.spots.items c.take_line.new.places.items No = rw c.in-No.is at (c.in_ok-take_line.ensures.taken so.places so.stand) in
    goes_not before (g.S.Source.left c.args.source.now) c.lines.window.place (unread c.lines.window (g.S.Source.left c.lines.source)) c.lines.line c.lines.spots.items c.lines.places.items t.line rest c.in-Some.listed so t.takes t.says (not_taken t.says.path.0)

pub returns-in_err-listed-clause-err : goal.returns-in_err-listed-clause-err
returns-in_err-listed-clause-err g c = λ sure before stand.
    let so = c.lines.invariant.goes sure before stand in
    let explained : ExplainsLines before (g.S.Source.left c.args.source.now) (listing_fault c.in_err-listed.field-0.0) = goes_wrong before (g.S.Source.left c.args.source.now) c.lines.window.place (unread c.lines.window (g.S.Source.left c.lines.source)) c.lines.line c.lines.spots.items c.lines.places.items c.in_err-listed.field-0.0 so (c.in_err-listed.ensures.err sure) in
    search rules
