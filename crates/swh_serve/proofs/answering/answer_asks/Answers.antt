use Rattle.std.proofs.Common.{◌≡◌, ℕ, ◌+◌, List, take, drop, Bool, true, false, refl, sym, ◌∙◌, subst, Ok, Err}
use Rattle.std.proofs.lemmas.List.{take_all}
use Rattle.swh_http.specs.declared.ask.Ask.{Ask}
use Rattle.swh_serve.specs.declared.progress.Progress.{Progress}
use Rattle.swh_serve.specs.Asks.{IsAskEnd}
use Rattle.swh_serve.specs.Causes.{IsPutCause}
use Rattle.swh_serve.proofs.Replies.{RepliedSoFar, replied-none, replied-more, replied-closes, replied-fails, replied-all, taken-more, cut-at}
use Rattle.swh_serve.proofs.TextPuts.{fault_cause}
use Rattle.swh_serve.proofs.answering.answer_asks.Goals as goal

pub asks-init : goal.asks-init
asks-init g c = record {
  replied = replied-none (g.A.Desk.protocol c.args.desk.now c.args.date) g.K.Sink.tells c.args.number c.args.seat.now (g.K.Sink.taken c.args.sink.now);
  few = c.requires.few;
  ready = c.requires.ready;
  same_heard = refl;
  same_count = refl;
}

pub returns-in-Err-clause-replied : goal.returns-in-Err-clause-replied
returns-in-Err-clause-replied g c =
    replied-fails (g.A.Desk.protocol c.args.desk.now c.args.date) g.K.Sink.tells c.args.number (take c.asks.ask-index c.args.asks.now) (drop (c.asks.ask-index + 1) c.args.asks.now) c.args.asks.now
    c.args.seat.now c.asks.seat c.answer_ask.new.seat (g.K.Sink.taken c.args.sink.now) (g.K.Sink.taken c.asks.sink) (g.K.Sink.taken c.answer_ask.new.sink)
    c.asks.requests c.ask-item.result c.in-Err.fault (cut-at c.args.asks.now c.asks.ask-index c.ask-item.result c.asks-test.true c.ask-item.is)
    c.asks.invariant.replied c.in-Err.ensures.ends

pub returns-in-Err-clause-cause : goal.returns-in-Err-clause-cause
returns-in-Err-clause-cause g c =
    let P : ℕ → Type 0 = λ n. IsPutCause {T = Bool} n (g.K.Sink.faults c.answer_ask.new.sink) (Err c.in-Err.fault) in
    fault_cause Bool Progress (g.K.Sink.faults c.args.sink.now) (g.K.Sink.faults c.answer_ask.new.sink) c.in-Err.fault
    (subst P c.asks.invariant.same_count c.in-Err.ensures.cause)

pub returns-then-not-kept-clause-replied : goal.returns-then-not-kept-clause-replied
returns-then-not-kept-clause-replied g c =
    let shuts : c.in-Ok.kept ≡ false = cc (c.if-not-kept.true) in
    let P : Bool → Type 0 = λ k. IsAskEnd (g.A.Desk.protocol c.args.desk.now c.args.date) g.K.Sink.tells c.asks.requests c.ask-item.result c.asks.seat c.answer_ask.new.seat (g.K.Sink.taken c.asks.sink) (g.K.Sink.taken c.answer_ask.new.sink) (Ok k) in
    replied-closes (g.A.Desk.protocol c.args.desk.now c.args.date) g.K.Sink.tells c.args.number (take c.asks.ask-index c.args.asks.now) (drop (c.asks.ask-index + 1) c.args.asks.now) c.args.asks.now
    c.args.seat.now c.asks.seat c.answer_ask.new.seat (g.K.Sink.taken c.args.sink.now) (g.K.Sink.taken c.asks.sink) (g.K.Sink.taken c.answer_ask.new.sink)
    c.asks.requests c.ask-item.result (cut-at c.args.asks.now c.asks.ask-index c.ask-item.result c.asks-test.true c.ask-item.is)
    c.asks.invariant.replied (subst P shuts c.in-Ok.ensures.ends)

pub asks-preserved : goal.asks-preserved
asks-preserved g c =
    let stays : c.in-Ok.kept ≡ true = cc (c.if-not-kept.false) in
    let P : Bool → Type 0 = λ k. IsAskEnd (g.A.Desk.protocol c.args.desk.now c.args.date) g.K.Sink.tells c.asks.requests c.ask-item.result c.asks.seat c.answer_ask.new.seat (g.K.Sink.taken c.asks.sink) (g.K.Sink.taken c.answer_ask.new.sink) (Ok k) in
    let Q : List Ask → Type 0 = λ l. RepliedSoFar (g.A.Desk.protocol c.args.desk.now c.args.date) g.K.Sink.tells c.args.number l c.args.seat.now c.answer_ask.new.seat (g.K.Sink.taken c.args.sink.now) (g.K.Sink.taken c.answer_ask.new.sink) (c.asks.requests + 1) in
    record {
      replied =
          subst Q (sym (taken-more c.args.asks.now c.asks.ask-index c.ask-item.result c.asks-test.true c.ask-item.is))
          (replied-more (g.A.Desk.protocol c.args.desk.now c.args.date) g.K.Sink.tells c.args.number (take c.asks.ask-index c.args.asks.now) c.args.seat.now c.asks.seat c.answer_ask.new.seat
          (g.K.Sink.taken c.args.sink.now) (g.K.Sink.taken c.asks.sink) (g.K.Sink.taken c.answer_ask.new.sink) c.asks.requests c.ask-item.result
          c.asks.invariant.replied (subst P stays c.in-Ok.ensures.ends));
      few = (c.in-Ok.ensures.ready stays).1;
      ready = (c.in-Ok.ensures.ready stays).0;
      same_heard = c.answer_ask.ensures.same_heard ∙ c.asks.invariant.same_heard;
      same_count = c.in-Ok.ensures.cause ∙ c.asks.invariant.same_count;
    }

pub returns-clause-replied : goal.returns-clause-replied
returns-clause-replied g c =
    let Q : List Ask → Type 0 = λ l. RepliedSoFar (g.A.Desk.protocol c.args.desk.now c.args.date) g.K.Sink.tells c.args.number l c.args.seat.now c.asks.seat (g.K.Sink.taken c.args.sink.now) (g.K.Sink.taken c.asks.sink) c.asks.requests in
    replied-all (g.A.Desk.protocol c.args.desk.now c.args.date) g.K.Sink.tells c.args.number c.args.asks.now c.args.seat.now c.asks.seat (g.K.Sink.taken c.args.sink.now) (g.K.Sink.taken c.asks.sink) c.asks.requests
    c.asks.invariant.few (subst Q (take_all c.asks.ask-index c.args.asks.now c.asks-test.false) c.asks.invariant.replied)
