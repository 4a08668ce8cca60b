use Rattle.std.proofs.Common.{◌≡◌, ◌++◌, sym, ap, subst, ◌∙◌, Result, Ok}
use Rattle.swh_outside.specs.Source.{Heard}
use Rattle.swh_serve.specs.declared.fault.ServeFault.{ServeFault}
use Rattle.swh_serve.specs.declared.reading.Came.{Came}
use Rattle.swh_serve.specs.declared.reading.Came.TheVariants.{Asks, End}
use Rattle.swh_serve.specs.Causes.{IsServeCause}
use Rattle.swh_serve.specs.Pieces.{IsRead}
use Rattle.swh_serve.specs.Served.{seen}
use Rattle.swh_serve.proofs.Readings.{asks-replied}
use Rattle.swh_serve.proofs.Connections.{waits-some, replied-cause, read-stops, asked-so, link-ends}
use Rattle.swh_serve.proofs.serving.serve_piece.Goals as goal

pub answer_asks-requires-clause-replied : goal.answer_asks-requires-clause-replied
answer_asks-requires-clause-replied g c κs within =
    let held = waits-some c.args.reading.now.session c.requires.waits in
    let R : Result Came ServeFault → Type 0 = λ r. IsRead g.L.Source.tells held.0
    (seen g.L.Source.given g.L.Source.ended g.L.Sink.taken c.args.link.now)
    (seen g.L.Source.given g.L.Source.ended g.L.Sink.taken c.read_asks.new.link) c.read_asks.new.reading.session r in
    let asked : c.read_asks.result ≡ Ok (Asks c.in-Ok-Asks.asks) = cc (c.in-Ok-Asks.is, c.in-Ok-Asks.field-0-is) in
    let came = subst R asked (c.read_asks.ensures.read held.0 held.1) in
    asks-replied (held.0 ++ came.0) c.as_slice.result.now c.read_asks.new.reading.session (rw c.as_slice.ensures.value came.2)

pub returns-in-Ok-Asks-clause-cause : goal.returns-in-Ok-Asks-clause-cause
returns-in-Ok-Asks-clause-cause g c =
    let link = g.met.L.Link g.world.𝓛 g.world.𝓜 g.world.𝓡 ((λ s x. x), (λ x. x), (λ x. x), λ x. x) in
    let C : Result Came ServeFault → Type 0 = λ r. IsServeCause (g.L.Source.faults c.args.link.now) (g.L.Source.faults c.read_asks.new.link) r in
    let asked : c.read_asks.result ≡ Ok (Asks c.in-Ok-Asks.asks) = cc (c.in-Ok-Asks.is, c.in-Ok-Asks.field-0-is) in
    let same = subst C asked c.read_asks.ensures.cause in
    replied-cause (g.L.Source.faults c.args.link.now) (g.L.Sink.faults c.read_asks.new.link) (g.L.Sink.faults c.answer_asks.new.sink)
    (g.L.Source.faults c.answer_asks.new.sink) c.answer_asks.result c.progress_of.result c.progress_of.ensures
    (sym (link.one_count c.read_asks.new.link) ∙ same) (link.one_count c.answer_asks.new.sink) c.answer_asks.ensures.cause

pub returns-in-Ok-Asks-clause-piece : goal.returns-in-Ok-Asks-clause-piece
returns-in-Ok-Asks-clause-piece g c = λ held is.
    let link = g.met.L.Link g.world.𝓛 g.world.𝓜 g.world.𝓡 ((λ s x. x), (λ x. x), (λ x. x), λ x. x) in
    let R : Result Came ServeFault → Type 0 = λ r. IsRead g.L.Source.tells held
    (seen g.L.Source.given g.L.Source.ended g.L.Sink.taken c.args.link.now)
    (seen g.L.Source.given g.L.Source.ended g.L.Sink.taken c.read_asks.new.link) c.read_asks.new.reading.session r in
    let asked : c.read_asks.result ≡ Ok (Asks c.in-Ok-Asks.asks) = cc (c.in-Ok-Asks.is, c.in-Ok-Asks.field-0-is) in
    let came = subst R asked (c.read_asks.ensures.read held is) in
    let heard = sym (link.gets_stay c.answer_asks.new.sink) ∙ c.answer_asks.ensures.same_heard ∙ link.gets_stay c.read_asks.new.link in
    asked-so (g.A.Desk.protocol c.args.desk.now c.args.date) g.L.Source.tells g.L.Sink.tells (link.both_tell).0 c.args.requests held came.0
    c.as_slice.result.now c.read_asks.new.reading.session c.args.seat.now c.answer_asks.new.seat
    (seen g.L.Source.given g.L.Source.ended g.L.Sink.taken c.args.link.now)
    (seen g.L.Source.given g.L.Source.ended g.L.Sink.taken c.read_asks.new.link)
    (seen g.L.Source.given g.L.Source.ended g.L.Sink.taken c.answer_asks.new.sink)
    c.answer_asks.result c.progress_of.result c.progress_of.ensures came.1 (rw c.as_slice.ensures.value came.2) came.3 came.4
    c.read_asks.ensures.same_taken (ap (λ (h : Heard). h.given) heard) (ap (λ (h : Heard). h.ended) heard)
    c.answer_asks.ensures.replied

pub returns-in-Ok-End-clause-piece : goal.returns-in-Ok-End-clause-piece
returns-in-Ok-End-clause-piece g c = λ held is.
    let R : Result Came ServeFault → Type 0 = λ r. IsRead g.L.Source.tells held
    (seen g.L.Source.given g.L.Source.ended g.L.Sink.taken c.args.link.now)
    (seen g.L.Source.given g.L.Source.ended g.L.Sink.taken c.read_asks.new.link) c.read_asks.new.reading.session r in
    let met : c.read_asks.result ≡ Ok End = cc (c.in-Ok-End.is, c.in-Ok-End.field-0-is) in
    let came = subst R met (c.read_asks.ensures.read held is) in
    link-ends (g.A.Desk.protocol c.args.desk.now c.args.date) g.L.Source.tells c.args.requests held c.args.seat.now
    (seen g.L.Source.given g.L.Source.ended g.L.Sink.taken c.args.link.now)
    (seen g.L.Source.given g.L.Source.ended g.L.Sink.taken c.read_asks.new.link) c.read_asks.new.reading.session c.end_of.result
    (rw is at c.requires.waits) c.read_asks.ensures.same_taken came.1 came.2 (rw came.0 at c.end_of.ensures)

pub returns-in-Err-clause-piece : goal.returns-in-Err-clause-piece
returns-in-Err-clause-piece g c = λ held is.
    read-stops (g.A.Desk.protocol c.args.desk.now c.args.date) g.L.Source.tells c.args.requests held c.args.seat.now
    (seen g.L.Source.given g.L.Source.ended g.L.Sink.taken c.args.link.now)
    (seen g.L.Source.given g.L.Source.ended g.L.Sink.taken c.read_asks.new.link) c.read_asks.new.reading.session c.in-Err.fault
    (rw is at c.requires.waits) c.read_asks.ensures.same_taken (c.in-Err.ensures.read held is)
