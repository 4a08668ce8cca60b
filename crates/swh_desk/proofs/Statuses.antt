-- That each reply has a body: its status is 200, or one of a refusal.
use Rattle.std.proofs.Common.{◌≡◌, inl, inr, ℕ, ◌≤◌, Option, Some, None, Result, Ok, Err, Bool, List, [], ◌∷◌, refl, ap, ◌∙◌, arith}
use Rattle.percent_encoding.specs.Percent.{percent_decode}
use Rattle.serde_json.specs.Data.{Data}
use Rattle.swh_base.specs.declared.kind.Kind.{Kind}
use Rattle.swh_base.specs.declared.kind.Kind.TheVariants as kind
use Rattle.swh_base.specs.declared.name.Name.{Name}
use Rattle.swh_base.specs.declared.request.Request.{Request}
use Rattle.swh_base.specs.declared.request.Reply.{Reply}
use Rattle.swh_model.specs.declared.event.Visit.{Visit}
use Rattle.swh_model.specs.Archive.{Archive, Bodies, body_of, visits_of}
use Rattle.swh_ingest.specs.declared.end.LoadFault.{LoadFault}
use Rattle.swh_ingest.specs.declared.stop.Stop.{Stop}
use Rattle.swh_ingest.specs.declared.stop.Stop.TheVariants as why
use Rattle.swh_loader.specs.declared.end.Loaded.{Loaded}
use Rattle.swh_graph.specs.Answer.{GraphAnswer, Found, Missing, Nowhere}
use Rattle.swh_graph.specs.Holding.{HoldsDirectory, HoldsRevision, HoldsRelease, HoldsSnapshot}
use Rattle.swh_graph.specs.Log.{IsLogAnswer}
use Rattle.swh_graph.specs.Path.{IsPathAnswer}
use Rattle.swh_graph.specs.Resolve.{IsResolveAnswer}
use Rattle.swh_http.specs.Reply.{HasBody}
use Rattle.swh_replies.specs.Answers.{content_name, of_body, of_visits, plain_reply, IsContentReply, IsKnownReply, IsOriginReply, IsRawReply}
use Rattle.swh_replies.specs.Json.{content_data, directory_data, entry_data, log_data, origin_data, release_data, resolved_data, revision_data, snapshot_data, tree_reply, visits_data}
use Rattle.swh_replies.specs.Shape.{Shape, Known, Visits, Origin, Revision, Log, Release, Directory, DirectoryEntry as Entry, Snapshot, Content, Resolve, Raw, Cook, Load}
use Rattle.swh_api.specs.Answer.{log_limit, graph_reply, TellsAnswer, IsAnswer, IsIdReply, IsRead, IsReplyTo, IsResolveReply, IsShapeReply}
use Rattle.swh_api.specs.Cook.{Cooked, CookAnswer, Missing as NotThere, Uncarried, cook_reply, IsCookReply, TellsCook}
use Rattle.swh_desk.specs.Outcome.{IsOutcomeReply, IsStopReply}

-- The reply has a body.
abbrev Has : Reply → Type 0
Has reply = HasBody reply.status

pub refused : (status code : ℕ) → status ≡ code → 400 ≤ code → code ≤ 503 → HasBody status
refused status code is low high = record {
  final = omega arith;
  three_digits = omega arith;
  has_content = λ (e : status ≡ 204). omega arith;
  resets_nothing = λ (e : status ≡ 205). omega arith;
  is_modified = λ (e : status ≡ 304). omega arith;
}

pub answered : (status : ℕ) → status ≡ 200 → HasBody status
answered status is = record {
  final = omega arith;
  three_digits = omega arith;
  has_content = λ (e : status ≡ 204). omega arith;
  resets_nothing = λ (e : status ≡ 205). omega arith;
  is_modified = λ (e : status ≡ 304). omega arith;
}

pub told-ok : (reply r : Reply) → reply ≡ r → r.status ≡ 200 → Has reply
told-ok reply r is ok = answered reply.status (ap (λ (x : Reply). x.status) is ∙ ok)

pub told-refused : (reply r : Reply) (code : ℕ) → reply ≡ r → r.status ≡ code → 400 ≤ code → code ≤ 503 → Has reply
told-refused reply r code is status low high = refused reply.status code (ap (λ (x : Reply). x.status) is ∙ status) low high

bad : (reply r : Reply) → reply ≡ r → r.status ≡ 400 → Has reply
bad reply r is status = told-refused reply r 400 is status (omega arith) (omega arith)

absent : (reply r : Reply) → reply ≡ r → r.status ≡ 404 → Has reply
absent reply r is status = told-refused reply r 404 is status (omega arith) (omega arith)

-- ---- by what is told

visits_have : (data_of : List Visit → Data) (visits : List Visit) (reply : Reply) → reply ≡ of_visits data_of visits → Has reply
visits_have data_of [] reply is = absent reply _ is refl
visits_have data_of (v ∷ vs) reply is = told-ok reply _ is refl

body_has : (name : Name) (reply_of : List ℕ → Reply) → ((b : List ℕ) → (reply_of b).status ≡ 200) → (body : Option (List ℕ)) (reply : Reply) → reply ≡ of_body name reply_of body → Has reply
body_has name reply_of ok None reply is = absent reply _ is refl
body_has name reply_of ok (Some b) reply is = told-ok reply _ is (ok b)

graph_has : {A : Type 0} (data_of : A → Data) (answer : GraphAnswer A) (reply : Reply) → reply ≡ graph_reply data_of answer → Has reply
graph_has data_of (Found object) reply is = told-ok reply _ is refl
graph_has data_of (Missing name) reply is = absent reply _ is refl
graph_has data_of (Nowhere component) reply is = absent reply _ is refl

cook_has : (answer : CookAnswer) (reply : Reply) → reply ≡ cook_reply answer → Has reply
cook_has (Cooked text) reply is = told-ok reply _ is refl
cook_has (NotThere name) reply is = absent reply _ is refl
cook_has (Uncarried name why) reply is = told-refused reply _ 422 is refl (omega arith) (omega arith)

-- ---- by what is asked

origin_has : (data_of : List ℕ → List Visit → Data) (a : Archive) (text : List ℕ) (reply : Reply) → IsOriginReply data_of a text reply → Has reply
origin_has data_of a text reply (inl h) = bad reply _ h.1 refl
origin_has data_of a text reply (inr h) = visits_have (data_of h.0) (visits_of a.origins h.0) reply h.2

id_has : {A : Type 0} (kind : Kind) (Answers : Name → GraphAnswer A → Type 0) (data_of : List ℕ → A → Data) (text : List ℕ) (reply : Reply) → IsIdReply kind Answers data_of text reply → Has reply
id_has kind Answers data_of text reply (inl h) = bad reply _ h.1 refl
id_has kind Answers data_of text reply (inr h) = graph_has (data_of h.0) h.2.answer reply h.2.told

resolve_has : (bodies : Bodies) (text : List ℕ) (reply : Reply) → IsResolveReply bodies text reply → Has reply
resolve_has bodies text reply (inl h) = bad reply _ h.1 refl
resolve_has bodies text reply (inr h) = graph_has resolved_data h.2.answer reply h.2.told

content_has : (a : Archive) (text : List ℕ) (reply : Reply) → IsContentReply a text reply → Has reply
content_has a text reply (inl h) = bad reply _ h.1 refl
content_has a text reply (inr h) =
    body_has (content_name h.0) (λ body. tree_reply 200 (content_data (content_name h.0) body)) (λ b. refl) (body_of a.bodies (content_name h.0)) reply h.2

raw_has : (a : Archive) (text : List ℕ) (reply : Reply) → IsRawReply a text reply → Has reply
raw_has a text reply (inl h) = bad reply _ h.1 refl
raw_has a text reply (inr h) = body_has h.0 plain_reply (λ b. refl) (body_of a.bodies h.0) reply h.2

known_has : (a : Archive) (body : List ℕ) (reply : Reply) → IsKnownReply a body reply → Has reply
known_has a body reply (inl h) = bad reply _ h.1 refl
known_has a body reply (inr h) = told-ok reply _ h.2 refl

cooked_has : (bodies : Bodies) (text : List ℕ) (reply : Reply) → IsCookReply bodies text reply → Has reply
cooked_has bodies text reply (inl h) = bad reply _ h.1 refl
cooked_has bodies text reply (inr h) = cook_has h.2.answer reply h.2.told

shape_has : (a : Archive) (body : List ℕ) (shape : Shape) (reply : Reply) → IsShapeReply a body shape reply → Has reply
shape_has a body Known reply h = known_has a body reply h
shape_has a body (Visits url) reply h = origin_has visits_data a url reply h
shape_has a body (Origin url) reply h = origin_has origin_data a url reply h
shape_has a body (Revision id) reply h = id_has kind.Revision (IsRead HoldsRevision a.bodies) revision_data id reply h
shape_has a body (Log id) reply h = id_has kind.Revision (λ root. IsLogAnswer a.bodies root log_limit) (λ _. log_data) id reply h
shape_has a body (Release id) reply h = id_has kind.Release (IsRead HoldsRelease a.bodies) release_data id reply h
shape_has a body (Directory id) reply h = id_has kind.Directory (IsRead HoldsDirectory a.bodies) (λ _. directory_data) id reply h
shape_has a body (Entry id path) reply h = id_has kind.Directory (λ root. IsPathAnswer a.bodies root (percent_decode path)) (λ _. entry_data) id reply h
shape_has a body (Snapshot id) reply h = id_has kind.Snapshot (IsRead HoldsSnapshot a.bodies) snapshot_data id reply h
shape_has a body (Content id) reply h = content_has a id reply h
shape_has a body (Resolve text) reply h = resolve_has a.bodies text reply h
shape_has a body (Raw core) reply h = raw_has a core reply h
shape_has a body (Cook core) reply h = cooked_has a.bodies core reply h
shape_has a body (Load url) reply h = bad reply _ h.1 refl

reply_to_has : (a : Archive) (request : Request) (shape : Shape) (reply : Reply) → IsReplyTo a request shape reply → Has reply
reply_to_has a request shape reply (inl h) = told-refused reply _ 405 h.1 refl (omega arith) (omega arith)
reply_to_has a request shape reply (inr h) = shape_has a request.body shape reply h.1

-- the archive's answer to a request has a body
pub answer_has : (a : Archive) (request : Request) (reply : Reply) → IsAnswer a request reply → HasBody reply.status
answer_has a request reply (inl h) = absent reply _ h.1 refl
answer_has a request reply (inr h) = reply_to_has a request h.0 reply h.2

-- ---- of loads

stop_has : (stop : Stop) (reply : Reply) (closes : Bool) → IsStopReply stop reply closes → Has reply
stop_has (why.Ended status) reply closes h = told-refused reply _ 500 h.0 refl (omega arith) (omega arith)
stop_has why.DiskFault reply closes h = told-refused reply _ 500 h.0 refl (omega arith) (omega arith)
stop_has why.Wounded reply closes h = told-refused reply _ 500 h.0 refl (omega arith) (omega arith)
stop_has (why.Limit which number) reply closes h = told-refused reply _ 500 h.0 refl (omega arith) (omega arith)
stop_has why.Memory reply closes h = absurd h

pub outcome_has : (origin : List ℕ) (outcome : Result Loaded LoadFault) (reply : Reply) (closes : Bool) → IsOutcomeReply origin outcome reply closes → HasBody reply.status
outcome_has origin (Ok loaded) reply closes h = told-ok reply _ h.0 refl
outcome_has origin (Err fault) reply closes h = stop_has fault.why reply closes h
