use Rattle.std.proofs.Common.{◌≡◌, ◌<◌, ℕ, List, refl, sym, subst, ◌∙◌, arith, Result, Ok, Err}
use Rattle.std.specs.Prelude.{IfOk}
use Rattle.swh_serve.specs.declared.fault.ServeFault.{ServeFault}
use Rattle.swh_serve.specs.declared.progress.Progress.{Progress}
use Rattle.swh_serve.specs.declared.progress.Progress.TheVariants.{Open, Closed}
use Rattle.swh_serve.specs.Asks.{IsReadyBehind}
use Rattle.swh_serve.specs.Causes.{IsServeCause}
use Rattle.swh_serve.specs.Pieces.{IsPieceEnd}
use Rattle.swh_serve.specs.Served.{seen}
use Rattle.swh_serve.proofs.Connections.{waits-some, waits-fresh, none-begun, from-start, err-served, Goes, piece-further, piece-waits, piece-goes}
use Rattle.swh_serve.proofs.serving.serve_over.Goals as goal

pub returns-in_default-clause-served : goal.returns-in_default-clause-served
returns-in_default-clause-served g c =
    none-begun (g.A.Desk.protocol c.args.desk.now c.args.date) g.L.Source.tells c.args.seat.now (seen g.L.Source.given g.L.Source.ended g.L.Sink.taken c.args.link.now) c.fresh_session-session.ensures.waits

pub returns-in_default-make_spare-clause-served : goal.returns-in_default-make_spare-clause-served
returns-in_default-make_spare-clause-served g c =
    none-begun (g.A.Desk.protocol c.args.desk.now c.args.date) g.L.Source.tells c.args.seat.now (seen g.L.Source.given g.L.Source.ended g.L.Sink.taken c.args.link.now) c.fresh_session-session.ensures.waits

pub pieces-init : goal.pieces-init
pieces-init g c = record {
  goes = λ held s' new result is served.
      from-start (g.A.Desk.protocol c.args.desk.now c.args.date) g.L.Source.tells c.fresh_session-session.result held c.args.seat.now s' (seen g.L.Source.given g.L.Source.ended g.L.Sink.taken c.args.link.now) new result
      c.fresh_session-session.ensures.fresh is served;
  waits = waits-fresh c.fresh_session-session.result c.fresh_session-session.ensures.fresh c.fresh_session-session.ensures.waits;
  room = omega (arith, c.in-Ok.ensures.len);
  few = omega arith;
  ready = c.requires.ready;
  same_count = refl;
}

pub pieces-smaller : goal.pieces-smaller
pieces-smaller g c =
    let E : List ℕ → Result Progress ServeFault → Type 0 = λ held r. IsPieceEnd (g.A.Desk.protocol c.args.desk.now c.args.date) g.L.Source.tells c.pieces.requests held c.pieces.seat
    c.serve_piece.new.seat (seen g.L.Source.given g.L.Source.ended g.L.Sink.taken c.pieces.link) (seen g.L.Source.given g.L.Source.ended g.L.Sink.taken c.serve_piece.new.link) c.serve_piece.new.reading.session r in
    let went : c.serve_piece.result ≡ Ok (Open c.in-Ok-Open.more) = cc (c.in-Ok-Open.is, c.in-Ok-Open.field-0-is) in
    let goes : Goes (g.A.Desk.protocol c.args.desk.now c.args.date) g.L.Source.tells c.pieces.requests c.in-Ok-Open.more c.pieces.reading.session c.serve_piece.new.reading.session
    c.pieces.seat c.serve_piece.new.seat (seen g.L.Source.given g.L.Source.ended g.L.Sink.taken c.pieces.link) (seen g.L.Source.given g.L.Source.ended g.L.Sink.taken c.serve_piece.new.link) = λ held is. subst (E held) went (c.serve_piece.ensures.piece held is) in
    piece-further (g.A.Desk.protocol c.args.desk.now c.args.date) g.L.Source.tells c.pieces.requests c.in-Ok-Open.more c.pieces.reading.session
    c.serve_piece.new.reading.session c.pieces.seat c.serve_piece.new.seat
    (seen g.L.Source.given g.L.Source.ended g.L.Sink.taken c.pieces.link) (seen g.L.Source.given g.L.Source.ended g.L.Sink.taken c.serve_piece.new.link) c.pieces.invariant.few c.pieces.invariant.waits goes

pub pieces-preserved : goal.pieces-preserved
pieces-preserved g c =
    let E : List ℕ → Result Progress ServeFault → Type 0 = λ held r. IsPieceEnd (g.A.Desk.protocol c.args.desk.now c.args.date) g.L.Source.tells c.pieces.requests held c.pieces.seat
    c.serve_piece.new.seat (seen g.L.Source.given g.L.Source.ended g.L.Sink.taken c.pieces.link) (seen g.L.Source.given g.L.Source.ended g.L.Sink.taken c.serve_piece.new.link) c.serve_piece.new.reading.session r in
    let C : Result Progress ServeFault → Type 0 = λ r. IsServeCause (g.L.Source.faults c.pieces.link) (g.L.Source.faults c.serve_piece.new.link) r in
    let Y : Result Progress ServeFault → Type 0 = λ r. IfOk r (λ (x : Progress). IsReadyBehind (g.A.Desk.protocol c.args.desk.now c.args.date) c.serve_piece.new.seat x) in
    let R : ℕ → Type 0 = λ m. 0 < m in
    let went : c.serve_piece.result ≡ Ok (Open c.in-Ok-Open.more) = cc (c.in-Ok-Open.is, c.in-Ok-Open.field-0-is) in
    let goes : Goes (g.A.Desk.protocol c.args.desk.now c.args.date) g.L.Source.tells c.pieces.requests c.in-Ok-Open.more c.pieces.reading.session c.serve_piece.new.reading.session
    c.pieces.seat c.serve_piece.new.seat (seen g.L.Source.given g.L.Source.ended g.L.Sink.taken c.pieces.link) (seen g.L.Source.given g.L.Source.ended g.L.Sink.taken c.serve_piece.new.link) = λ held is. subst (E held) went (c.serve_piece.ensures.piece held is) in
    let next = piece-waits (g.A.Desk.protocol c.args.desk.now c.args.date) g.L.Source.tells c.pieces.requests c.in-Ok-Open.more c.pieces.reading.session
    c.serve_piece.new.reading.session c.pieces.seat c.serve_piece.new.seat
    (seen g.L.Source.given g.L.Source.ended g.L.Sink.taken c.pieces.link) (seen g.L.Source.given g.L.Source.ended g.L.Sink.taken c.serve_piece.new.link) c.pieces.invariant.waits goes in
    record {
      goes = λ held s' new result is served.
          let back = piece-goes (g.A.Desk.protocol c.args.desk.now c.args.date) g.L.Source.tells c.any_pieces.ensures.open c.pieces.requests c.in-Ok-Open.more c.pieces.reading.session
          c.serve_piece.new.reading.session c.pieces.seat c.serve_piece.new.seat s' (seen g.L.Source.given g.L.Source.ended g.L.Sink.taken c.pieces.link) (seen g.L.Source.given g.L.Source.ended g.L.Sink.taken c.serve_piece.new.link) new held result
          c.pieces.invariant.waits goes is served in
          c.pieces.invariant.goes back.0 s' new result back.1 back.2;
      waits = next.0;
      room = subst R (sym c.serve_piece.ensures.room) c.pieces.invariant.room;
      few = next.1;
      ready = subst Y went c.serve_piece.ensures.ready;
      same_count = subst C went c.serve_piece.ensures.cause ∙ c.pieces.invariant.same_count;
    }

pub returns-in-Ok-Closed-clause-served : goal.returns-in-Ok-Closed-clause-served
returns-in-Ok-Closed-clause-served g c =
    let E : List ℕ → Result Progress ServeFault → Type 0 = λ held r. IsPieceEnd (g.A.Desk.protocol c.args.desk.now c.args.date) g.L.Source.tells c.pieces.requests held c.pieces.seat
    c.serve_piece.new.seat (seen g.L.Source.given g.L.Source.ended g.L.Sink.taken c.pieces.link) (seen g.L.Source.given g.L.Source.ended g.L.Sink.taken c.serve_piece.new.link) c.serve_piece.new.reading.session r in
    let went : c.serve_piece.result ≡ Ok (Closed c.in-Ok-Closed.requests) = cc (c.in-Ok-Closed.is, c.in-Ok-Closed.field-0-is) in
    let some = waits-some c.pieces.reading.session c.pieces.invariant.waits in
    c.pieces.invariant.goes some.0 c.serve_piece.new.seat (seen g.L.Source.given g.L.Source.ended g.L.Sink.taken c.serve_piece.new.link)
    (Ok (record { requests = c.in-Ok-Closed.requests })) some.1 (subst (E some.0) went (c.serve_piece.ensures.piece some.0 some.1))

pub returns-in-Ok-Closed-clause-cause : goal.returns-in-Ok-Closed-clause-cause
returns-in-Ok-Closed-clause-cause g c =
    let C : Result Progress ServeFault → Type 0 = λ r. IsServeCause (g.L.Source.faults c.pieces.link) (g.L.Source.faults c.serve_piece.new.link) r in
    let went : c.serve_piece.result ≡ Ok (Closed c.in-Ok-Closed.requests) = cc (c.in-Ok-Closed.is, c.in-Ok-Closed.field-0-is) in
    subst C went c.serve_piece.ensures.cause ∙ c.pieces.invariant.same_count

pub returns-in-Err-clause-served : goal.returns-in-Err-clause-served
returns-in-Err-clause-served g c =
    let some = waits-some c.pieces.reading.session c.pieces.invariant.waits in
    c.pieces.invariant.goes some.0 c.serve_piece.new.seat (seen g.L.Source.given g.L.Source.ended g.L.Sink.taken c.serve_piece.new.link)
    (Err c.in-Err.fault) some.1 (c.in-Err.ensures.piece some.0 some.1)

pub returns-in-Err-clause-cause : goal.returns-in-Err-clause-cause
returns-in-Err-clause-cause g c =
    err-served (g.L.Source.faults c.args.link.now) (g.L.Source.faults c.pieces.link) (g.L.Source.faults c.serve_piece.new.link)
    c.in-Err.fault c.pieces.invariant.same_count c.in-Err.ensures.cause
