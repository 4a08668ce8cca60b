use Rattle.std.proofs.Common.{◌≡◌, ◌-◌, ◌<◌, ◌≤◌, ℕ, List, Err, length, take, sym, ap, ◌∙◌, subst, arith}
use Rattle.swh_fastlex.specs.Line.{unread}
use Rattle.swh_listing.specs.Fault.{NextBreaks}
use Rattle.swh_listing.specs.Reading.{told, SaysWithin, ExplainsLine}
use Rattle.swh_listing.proofs.Lines.{fault_told, over_told, line_refused, listed_taken}
use Rattle.swh_listing.proofs.next.next_listed.Goals as goal

pub returns-in-Err-clause-err : goal.returns-in-Err-clause-err
returns-in-Err-clause-err g c = λ sure.
    let left = g.S.Source.left c.args.source.now in
    let why = c.fault_told.ensures ∙ ap (λ (n : ℕ). told c.in-Err.fault n c.args.count) c.place.ensures in
    subst (NextBreaks c.args.window.now.place (unread c.args.window.now left) c.args.count) (sym why) (fault_told c.args.window.now c.next_line.new.window left (g.S.Source.left c.next_line.new.source) c.args.count c.requires.place c.in-Err.fault (λ e. c.in-Err.ensures.end sure (ap Err e)) (λ e. c.in-Err.ensures.limit sure (ap Err e)))

pub returns-then-place-gt-LISTING_LIMIT-clause-err : goal.returns-then-place-gt-LISTING_LIMIT-clause-err
returns-then-place-gt-LISTING_LIMIT-clause-err g c = λ sure.
    let left = g.S.Source.left c.args.source.now in
    let line = rw c.in-Some.is at c.in-Ok.ensures.line in
    let within = rw c.in-Some.is at c.in-Ok.ensures.within in
    let taken = rw c.in-Some.is at (c.in-Ok.ensures.taken sure) in
    let over : 4294967296 < c.next_line.new.window.place = omega (arith, c.if-place-gt-LISTING_LIMIT.true, c.place-2.ensures) in
    subst (NextBreaks c.args.window.now.place (unread c.args.window.now left) c.args.count) (sym c.too_long.ensures) (over_told c.args.window.now c.next_line.new.window left (g.S.Source.left c.next_line.new.source) c.args.count c.requires.place c.in-Some.line.items line taken within over)

pub returns-in-Err-said_by-clause-err : goal.returns-in-Err-said_by-clause-err
returns-in-Err-said_by-clause-err g c = λ sure.
    let left = g.S.Source.left c.args.source.now in
    let line = rw c.in-Some.is at c.in-Ok.ensures.line in
    let within = rw c.in-Some.is at c.in-Ok.ensures.within in
    let taken = rw c.in-Some.is at (c.in-Ok.ensures.taken sure) in
    let under : c.next_line.new.window.place ≤ 4294967296 = omega (arith, c.if-place-gt-LISTING_LIMIT.false, c.place-2.ensures) in
    let front : take (c.len.result - 1) c.deref.result.now ≡ take (length c.in-Some.line.items - 1) c.in-Some.line.items = cc (c.deref.ensures.value, c.len.ensures) in
    let why = subst (λ (l : List ℕ). ExplainsLine l c.args.count c.in-Err-said_by.refused) front c.in-Err-said_by.ensures.err in
    line_refused c.args.window.now c.next_line.new.window left (g.S.Source.left c.next_line.new.source) c.args.count c.requires.place c.in-Some.line.items c.in-Err-said_by.refused line taken within under why

pub returns-clause-some : goal.returns-clause-some
returns-clause-some g c = λ sure.
    let left = g.S.Source.left c.args.source.now in
    let line = rw c.in-Some.is at c.in-Ok.ensures.line in
    let within = rw c.in-Some.is at c.in-Ok.ensures.within in
    let taken = rw c.in-Some.is at (c.in-Ok.ensures.taken sure) in
    let under : c.next_line.new.window.place ≤ 4294967296 = omega (arith, c.if-place-gt-LISTING_LIMIT.false, c.place-2.ensures) in
    let front : take (c.len.result - 1) c.deref.result.now ≡ take (length c.in-Some.line.items - 1) c.in-Some.line.items = cc (c.deref.ensures.value, c.len.ensures) in
    let says = subst (λ (l : List ℕ). SaysWithin l c.in-Ok-said_by.listed) front c.in-Ok-said_by.ensures.ok in
    listed_taken c.args.window.now c.next_line.new.window left (g.S.Source.left c.next_line.new.source) c.args.count c.requires.place c.in-Some.line.items c.in-Ok-said_by.listed line taken within under says
