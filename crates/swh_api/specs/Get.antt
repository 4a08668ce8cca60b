-- What is answered to a GET of a path.
use Rattle.std.specs.Prelude.{◌≡◌, ℕ, false, List, [], codes}
use Rattle.swh_base.specs.declared.request.Request.{Request}
use Rattle.swh_base.specs.declared.request.Reply.{Reply}
use Rattle.swh_model.specs.Archive.{Archive}
use Rattle.swh_model.specs.Answer.{ReplyText}
use Rattle.swh_api.specs.Answer.{IsAnswer}

-- a GET of a path, without a body
abbrev pub get_request : List ℕ → Request
get_request path = record { method = codes "GET"; path = path; body = []; keep = false }

-- a reply's status and body
abbrev pub text_of : Reply → ReplyText
text_of r = record { status = r.status; body = r.body }

-- The text is that of the archive's answer to a GET of the path.
pub record IsReplyToGet (a : Archive) (path : List ℕ) (text : ReplyText) : Type 0 where
  pub reply : Reply
  pub answer : IsAnswer a (get_request path) reply
  pub told : text ≡ text_of reply
