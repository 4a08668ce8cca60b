-- What is answered to a request of the read API, over an archive.
use Rattle.std.specs.Prelude.{◌≡◌, ◌≢◌, ◌⊎◌, ℕ, None, List, codes}
use Rattle.percent_encoding.specs.Percent.{percent_decode}
use Rattle.serde_json.specs.Data.{Data}
use Rattle.swh_base.specs.declared.kind.Kind.{Kind}
use Rattle.swh_base.specs.declared.kind.Kind.TheVariants as kind
use Rattle.swh_base.specs.declared.name.Name.{Name}
use Rattle.swh_base.specs.declared.request.Request.{Request}
use Rattle.swh_base.specs.declared.request.Reply.{Reply}
use Rattle.swh_model.specs.Archive.{Archive, Bodies, body_of}
use Rattle.swh_swhid.specs.declared.swhid.Swhid.{Swhid}
use Rattle.swh_swhid.specs.Qualifier.{IsSwhid}
use Rattle.swh_graph.specs.Answer.{GraphAnswer, Found, Missing, Nowhere}
use Rattle.swh_graph.specs.Holding.{HoldsDirectory, HoldsRevision, HoldsRelease, HoldsSnapshot}
use Rattle.swh_graph.specs.Log.{IsLogAnswer}
use Rattle.swh_graph.specs.Path.{IsPathAnswer}
use Rattle.swh_graph.specs.Resolve.{IsResolveAnswer}
use Rattle.swh_replies.specs.Shape.{Shape, Known, Visits, Origin, Revision, Log, Release, Directory, DirectoryEntry, Snapshot, Content, Resolve, Raw, Cook, Load, Spells}
use Rattle.swh_replies.specs.Json.{visits_data, origin_data, revision_data, log_data, release_data, entry_data, directory_data, snapshot_data, resolved_data, no_path_data, tree_reply, error_reply}
use Rattle.swh_replies.specs.Answers.{NoUrl, SpellsId, NoId, bad_text, not_found, not_held, IsOriginReply, IsContentReply, IsRawReply, IsKnownReply}
use Rattle.swh_api.specs.Cook.{IsCookReply}

-- ---- objects and the graph

-- how many revisions of a log are told
abbrev pub log_limit : ℕ
log_limit = 100

-- what is read under a name, or that nothing is held under it
abbrev pub IsRead : {A : Type 0} → (Bodies → Name → A → Type 0) → Bodies → Name → GraphAnswer A → Type 0
IsRead Holds bodies name (Found object) = Holds bodies name object
IsRead Holds bodies name (Missing missing) = (missing ≡ name) × (body_of bodies name ≡ None)
IsRead Holds bodies name (Nowhere component) = ⊥

-- the reply that tells an answer of the graph
abbrev pub graph_reply : {A : Type 0} → (A → Data) → GraphAnswer A → Reply
graph_reply data_of (Found object) = tree_reply 200 (data_of object)
graph_reply data_of (Missing name) = not_held name
graph_reply data_of (Nowhere component) = tree_reply 404 (no_path_data component)

-- The reply tells an answer of this sort.
pub record TellsAnswer {A : Type 0} (Answers : GraphAnswer A → Type 0) (data_of : A → Data) (reply : Reply) : Type 0 where
  pub answer : GraphAnswer A
  pub is_answer : Answers answer
  pub told : reply ≡ graph_reply data_of answer

-- what is answered of the object of a kind whose id a text is
abbrev pub IsIdReply : {A : Type 0} → Kind → (Name → GraphAnswer A → Type 0) → (List ℕ → A → Data) → List ℕ → Reply → Type 0
IsIdReply kind Answers data_of text reply =
    (NoId text × (reply ≡ bad_text))
    ⊎ ((id : List ℕ) × SpellsId text id × TellsAnswer (Answers (record { kind = kind; id = id })) (data_of id) reply)

-- what is answered of the object to which the SWHID leads that a text is
abbrev pub IsResolveReply : Bodies → List ℕ → Reply → Type 0
IsResolveReply bodies text reply =
    (((swhid : Swhid) → IsSwhid text swhid → ⊥) × (reply ≡ bad_text))
    ⊎ ((swhid : Swhid) × IsSwhid text swhid × TellsAnswer (IsResolveAnswer bodies swhid) resolved_data reply)

-- ---- requests

-- the method that a path is asked by
abbrev pub method_of : Shape → List ℕ
method_of Known = codes "POST"
method_of (Load url) = codes "POST"
method_of _ = codes "GET"

-- A path of this shape is asked by the method. One that is asked by GET is asked by HEAD too, and has the same reply (RFC 9110,
-- section 9.3.2): its body is left out where it is put.
abbrev pub IsMethodOf : List ℕ → Shape → Type 0
IsMethodOf method shape = (method ≡ method_of shape) ⊎ ((method ≡ codes "HEAD") × (method_of shape ≡ codes "GET"))

-- What is answered to a path of this shape. A load of a URL is no question, and is answered elsewhere.
abbrev pub IsShapeReply : Archive → List ℕ → Shape → Reply → Type 0
IsShapeReply a body Known reply = IsKnownReply a body reply
IsShapeReply a body (Visits url) reply = IsOriginReply visits_data a url reply
IsShapeReply a body (Origin url) reply = IsOriginReply origin_data a url reply
IsShapeReply a body (Revision id) reply = IsIdReply kind.Revision (IsRead HoldsRevision a.bodies) revision_data id reply
IsShapeReply a body (Log id) reply = IsIdReply kind.Revision (λ root. IsLogAnswer a.bodies root log_limit) (λ _. log_data) id reply
IsShapeReply a body (Release id) reply = IsIdReply kind.Release (IsRead HoldsRelease a.bodies) release_data id reply
IsShapeReply a body (Directory id) reply = IsIdReply kind.Directory (IsRead HoldsDirectory a.bodies) (λ _. directory_data) id reply
IsShapeReply a body (DirectoryEntry id path) reply = IsIdReply kind.Directory (λ root. IsPathAnswer a.bodies root (percent_decode path)) (λ _. entry_data) id reply
IsShapeReply a body (Snapshot id) reply = IsIdReply kind.Snapshot (IsRead HoldsSnapshot a.bodies) snapshot_data id reply
IsShapeReply a body (Content id) reply = IsContentReply a id reply
IsShapeReply a body (Resolve swhid) reply = IsResolveReply a.bodies swhid reply
IsShapeReply a body (Raw core) reply = IsRawReply a core reply
IsShapeReply a body (Cook core) reply = IsCookReply a.bodies core reply
IsShapeReply a body (Load url) reply = NoUrl url × (reply ≡ bad_text)

-- The path has no shape.
abbrev pub HasNoShape : List ℕ → Type 0
HasNoShape path = (shape : Shape) → Spells path shape → ⊥

-- what is answered to a request for a path of this shape: the method is looked at first
abbrev pub IsReplyTo : Archive → Request → Shape → Reply → Type 0
IsReplyTo a request shape reply =
    ((IsMethodOf request.method shape → ⊥) × (reply ≡ error_reply 405 (codes "method")))
    ⊎ (IsMethodOf request.method shape × IsShapeReply a request.body shape reply)

-- The reply is the archive's answer to the request.
abbrev pub IsAnswer : Archive → Request → Reply → Type 0
IsAnswer a request reply =
    (HasNoShape request.path × (reply ≡ not_found))
    ⊎ ((shape : Shape) × Spells request.path shape × IsReplyTo a request shape reply)
