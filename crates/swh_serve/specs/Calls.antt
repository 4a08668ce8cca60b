-- What a call answers that a desk is made of.
use Rattle.std.specs.Prelude.{Result, IfOk, OnErr}
use Rattle.swh_base.specs.declared.request.Request.{Request}
use Rattle.swh_http.specs.Reply.{HasBody}
use Rattle.swh_serve.specs.declared.desk.Answered.{Answered}
use Rattle.swh_serve.specs.Desk.{Protocol}

module _ {S : Type 0} (p : Protocol S) where
  -- A request may be answered at the seat.
  abbrev pub MayAsk : S → Type 0
  MayAsk s = p.ready s

  -- A request was answered, or memory ran out.
  pub record IsAnswered {E : Type 0} (request : Request) (old new : S) (result : Result Answered E) : Type 0 where
    pub answers : IfOk result (λ a. p.answers request a.reply a.closes old new)
    pub has_body : IfOk result (λ a. HasBody a.reply.status)
    pub lacks : OnErr result (p.lacks request old new)
