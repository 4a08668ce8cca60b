use Rattle.std.proofs.Common.{◌≡◌, false, refl, inl, inr, ap, arith}
use Rattle.swh_base.specs.declared.request.Reply.{Reply}
use Rattle.swh_serve.proofs.Readings.{status-of}
use Rattle.swh_serve.proofs.Replies.{ask-answered, ready-kept, ready-lacking}
use Rattle.swh_serve.proofs.answering.answer_request.Goals as goal

pub put_answer-requires-in-Err-after_bounds : goal.put_answer-requires-in-Err-after_bounds
put_answer-requires-in-Err-after_bounds g c κs within =
    status-of c.args.spare.now.starved.status 503 (ap (λ (r : Reply). r.status) c.requires.starved) (omega arith) (omega arith)

pub returns-in-Ok-clause-ends : goal.returns-in-Ok-clause-ends
returns-in-Ok-clause-ends g c =
    ask-answered (g.A.Desk.protocol c.args.desk.now c.args.date) g.K.Sink.tells c.args.number c.args.request.now c.in-Ok.field-0.reply c.in-Ok.field-0.closes
    c.keeps-keep.result c.args.seat.now c.answer.new.seat (g.K.Sink.taken c.args.sink.now) (g.K.Sink.taken c.put_answer.new.sink)
    c.put_answer.result (inl c.in-Ok.ensures.answers) c.keeps-keep.ensures c.put_answer.ensures.kept c.put_answer.ensures.text

pub returns-in-Ok-clause-ready : goal.returns-in-Ok-clause-ready
returns-in-Ok-clause-ready g c =
    ready-kept (g.A.Desk.protocol c.args.desk.now c.args.date) (g.met.A.Desk.lawful c.args.desk.now c.args.date) c.args.number c.args.request.now c.in-Ok.field-0.reply
    c.in-Ok.field-0.closes c.keeps-keep.result c.args.seat.now c.answer.new.seat c.put_answer.result c.requires.ready c.in-Ok.ensures.answers
    c.keeps-keep.ensures c.put_answer.ensures.kept

pub returns-in-Err-clause-ends : goal.returns-in-Err-clause-ends
returns-in-Err-clause-ends g c =
    ask-answered (g.A.Desk.protocol c.args.desk.now c.args.date) g.K.Sink.tells c.args.number c.args.request.now c.args.spare.now.starved false
    c.keeps-keep-in-Err.result c.args.seat.now c.answer.new.seat (g.K.Sink.taken c.args.sink.now) (g.K.Sink.taken c.put_answer-in-Err.new.sink)
    c.put_answer-in-Err.result (inr (c.requires.starved, refl, c.in-Err.ensures.lacks)) c.keeps-keep-in-Err.ensures
    c.put_answer-in-Err.ensures.kept c.put_answer-in-Err.ensures.text

pub returns-in-Err-clause-ready : goal.returns-in-Err-clause-ready
returns-in-Err-clause-ready g c =
    ready-lacking (g.A.Desk.protocol c.args.desk.now c.args.date) (g.met.A.Desk.lawful c.args.desk.now c.args.date) c.args.request.now c.args.seat.now c.answer.new.seat
    c.put_answer-in-Err.result c.requires.ready c.in-Err.ensures.lacks
