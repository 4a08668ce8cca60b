-- That the answer to a GET of a path is told.
use Rattle.std.proofs.Common.{◌≡◌, ℕ, Result, Ok, Err, IfOk, List, refl, subst}
use Rattle.swh_base.specs.declared.memory.Memory.{Memory}
use Rattle.swh_base.specs.declared.request.Request.{Request}
use Rattle.swh_base.specs.declared.request.Reply.{Reply}
use Rattle.swh_model.specs.Archive.{Archive}
use Rattle.swh_api.specs.Answer.{IsAnswer}
use Rattle.swh_api.specs.Get.{get_request, text_of, IsReplyToGet}

pub told : (a : Archive) (path : List ℕ) (request : Request) (result : Result Reply Memory) → request ≡ get_request path → IfOk result (IsAnswer a request) → IfOk result (λ r. IsReplyToGet a path (text_of r))
told a path request (Ok reply) same answer = record { reply = reply; answer = subst (λ (q : Request). IsAnswer a q reply) same answer; told = refl }
told a path request (Err e) same answer = tt
