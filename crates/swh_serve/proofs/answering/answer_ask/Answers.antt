use Rattle.std.proofs.Common.{◌≡◌, refl}
use Rattle.swh_http.specs.declared.ask.Ask.TheVariants.{Request as Asked}
use Rattle.swh_serve.specs.Asks.{MayBeReplied}
use Rattle.swh_serve.proofs.Replies.{ask-refused, ready-few, never-kept}
use Rattle.swh_serve.proofs.answering.answer_ask.Goals as goal

pub refuse-requires-after_bounds : goal.refuse-requires-after_bounds
refuse-requires-after_bounds g c κs within = rw c.in-Refused.is at c.requires.replied

pub returns-in-Request-clause-ends : goal.returns-in-Request-clause-ends
returns-in-Request-clause-ends g c = rw c.in-Request.is c.answer_request.ensures.ends

pub returns-in-Request-clause-ready : goal.returns-in-Request-clause-ready
returns-in-Request-clause-ready g c =
    ready-few (g.A.Desk.protocol c.args.desk.now c.args.date) g.K.Sink.tells c.args.number (Asked c.in-Request.request)
    c.args.seat.now c.answer_request.new.seat (g.K.Sink.taken c.args.sink.now) (g.K.Sink.taken c.answer_request.new.sink)
    c.answer_request.result c.answer_request.ensures.ends c.answer_request.ensures.ready

pub returns-in-Refused-clause-ends : goal.returns-in-Refused-clause-ends
returns-in-Refused-clause-ends g c =
    rw c.in-Refused.is (ask-refused (g.A.Desk.protocol c.args.desk.now c.args.date) g.K.Sink.tells c.args.number c.in-Refused.status c.args.seat.now
    (g.K.Sink.taken c.args.sink.now) (g.K.Sink.taken c.refuse.new.sink) c.refuse.result c.refuse.ensures.closes c.refuse.ensures.text)

pub returns-in-Refused-clause-ready : goal.returns-in-Refused-clause-ready
returns-in-Refused-clause-ready g c = never-kept _ c.refuse.result c.refuse.ensures.closes
