-- That there is one answer to a request.
use Rattle.std.proofs.Common.{◌≡◌, inl, inr, ℕ, Option, Some, None, List, sym, ap, ◌∙◌, subst}
use Rattle.percent_encoding.specs.Percent.{percent_decode}
use Rattle.serde_json.specs.Data.{Data}
use Rattle.swh_base.specs.declared.kind.Kind.{Kind}
use Rattle.swh_base.specs.declared.kind.Kind.TheVariants as kind
use Rattle.swh_base.specs.declared.name.Name.{Name}
use Rattle.swh_base.specs.declared.request.Request.{Request}
use Rattle.swh_base.specs.declared.request.Reply.{Reply}
use Rattle.swh_base.specs.Directory.{IsDirectory}
use Rattle.swh_base.specs.Revision.{IsRevision}
use Rattle.swh_base.specs.Release.{IsRelease}
use Rattle.swh_base.specs.Snapshot.{IsSnapshot}
use Rattle.swh_base.proofs.DirectoryLemmas.{one_listing_lem}
use Rattle.swh_base.proofs.RevisionLemmas.{one_revision, one_release}
use Rattle.swh_base.proofs.SnapshotLemmas.{one_snapshot}
use Rattle.swh_model.specs.Archive.{Archive, Bodies, body_of}
use Rattle.swh_model.specs.Answer.{ReplyText}
use Rattle.swh_swhid.specs.declared.swhid.Swhid.{Swhid}
use Rattle.swh_swhid.proofs.Values.{one_value}
use Rattle.swh_graph.specs.Answer.{GraphAnswer, Found, Missing, Nowhere}
use Rattle.swh_graph.specs.Holding.{HoldsDirectory, HoldsRevision, HoldsRelease, HoldsSnapshot}
use Rattle.swh_graph.specs.Log.{IsLogAnswer}
use Rattle.swh_graph.specs.Path.{IsPathAnswer}
use Rattle.swh_graph.specs.Resolve.{IsResolveAnswer}
use Rattle.swh_graph.proofs.OneLog.{one_log_lem}
use Rattle.swh_graph.proofs.OnePath.{one_path_lem}
use Rattle.swh_graph.proofs.OneResolution.{one_resolution_lem}
use Rattle.swh_replies.specs.Shape.{Shape, Known, Visits, Origin, Revision, Log, Release, Directory, DirectoryEntry as Entry, Snapshot, Content, Resolve, Raw, Cook, Load}
use Rattle.swh_replies.specs.Json.{visits_data, origin_data, revision_data, log_data, release_data, entry_data, directory_data, snapshot_data, resolved_data}
use Rattle.swh_replies.proofs.Shapes.{one_shape}
use Rattle.swh_replies.proofs.Unique.{one_id, one_core, one_origin_reply, one_content_reply, one_raw_reply, one_known_reply}
use Rattle.swh_api.specs.Answer.{log_limit, IsRead, graph_reply, TellsAnswer, IsIdReply, IsResolveReply, IsShapeReply, IsReplyTo, IsAnswer}
use Rattle.swh_api.specs.Cook.{TellsCook, IsCookReply}
use Rattle.swh_api.specs.Get.{get_request, text_of, IsReplyToGet}
use Rattle.swh_api.proofs.Cooks.{one_cook_told}

-- ---- what is read under a name

-- a sort of object of which one at most is held under a name
abbrev IsSingle : {A : Type 0} → (Bodies → Name → A → Type 0) → Type 0
IsSingle {A} Holds = ((bodies : Bodies) (name : Name) (a b : A) → Holds bodies name a → Holds bodies name b → a ≡ b) × ((bodies : Bodies) (name : Name) (a : A) → Holds bodies name a → body_of bodies name ≡ None → ⊥)

some_injective : (a b : List ℕ) (o : Option (List ℕ)) → o ≡ Some a → o ≡ Some b → a ≡ b
some_injective a b o e f = let both = sym e ∙ f in cc

some_none : (a : List ℕ) (o : Option (List ℕ)) → o ≡ Some a → o ≡ None → ⊥
some_none a o e f = let both = sym e ∙ f in cc

single_directory : IsSingle HoldsDirectory
single_directory = (λ bodies name a b h k. one_listing_lem k.body a b (subst (λ (body : List ℕ). IsDirectory body a) (some_injective h.body k.body _ h.held k.held) h.is) k.is, λ bodies name a h none. some_none h.body _ h.held none)

single_revision : IsSingle HoldsRevision
single_revision = (λ bodies name a b h k. one_revision k.body a b (subst (λ (body : List ℕ). IsRevision body a) (some_injective h.body k.body _ h.held k.held) h.is) k.is, λ bodies name a h none. some_none h.body _ h.held none)

single_release : IsSingle HoldsRelease
single_release = (λ bodies name a b h k. one_release k.body a b (subst (λ (body : List ℕ). IsRelease body a) (some_injective h.body k.body _ h.held k.held) h.is) k.is, λ bodies name a h none. some_none h.body _ h.held none)

single_snapshot : IsSingle HoldsSnapshot
single_snapshot = (λ bodies name a b h k. one_snapshot k.body a b (subst (λ (body : List ℕ). IsSnapshot body a) (some_injective h.body k.body _ h.held k.held) h.is) k.is, λ bodies name a h none. some_none h.body _ h.held none)

one_read : {A : Type 0} (Holds : Bodies → Name → A → Type 0) → IsSingle Holds → (bodies : Bodies) (name : Name) (a b : GraphAnswer A) → IsRead Holds bodies name a → IsRead Holds bodies name b → a ≡ b
one_read Holds single bodies name (Found x) (Found y) h k = ap Found (single.0 bodies name x y h k)
one_read Holds single bodies name (Found x) (Missing n) h k = absurd (single.1 bodies name x h k.1)
one_read Holds single bodies name (Found x) (Nowhere c) h k = absurd k
one_read Holds single bodies name (Missing n) (Found y) h k = absurd (single.1 bodies name y k h.1)
one_read Holds single bodies name (Missing n) (Missing m) h k = ap Missing (h.0 ∙ sym k.0)
one_read Holds single bodies name (Missing n) (Nowhere c) h k = absurd k
one_read Holds single bodies name (Nowhere c) b h k = absurd h

-- ---- replies that tell an answer

abbrev IsOne : {A : Type 0} → (GraphAnswer A → Type 0) → Type 0
IsOne {A} Answers = (a b : GraphAnswer A) → Answers a → Answers b → a ≡ b

one_told : {A : Type 0} (Answers : GraphAnswer A → Type 0) (data_of : A → Data) → IsOne Answers → (r s : Reply) → TellsAnswer Answers data_of r → TellsAnswer Answers data_of s → r ≡ s
one_told Answers data_of one r s h k = h.told ∙ ap (graph_reply data_of) (one h.answer k.answer h.is_answer k.is_answer) ∙ sym k.told

one_id_reply : {A : Type 0} (kind : Kind) (Answers : Name → GraphAnswer A → Type 0) (data_of : List ℕ → A → Data) → ((name : Name) → IsOne (Answers name)) → (text : List ℕ) (r s : Reply) → IsIdReply kind Answers data_of text r → IsIdReply kind Answers data_of text s → r ≡ s
one_id_reply kind Answers data_of one text r s (inl h) (inl k) = h.1 ∙ sym k.1
one_id_reply kind Answers data_of one text r s (inl h) (inr k) = absurd (h.0 k.0 k.1)
one_id_reply kind Answers data_of one text r s (inr h) (inl k) = absurd (k.0 h.0 h.1)
one_id_reply kind Answers data_of one text r s (inr h) (inr k) =
    let same : h.0 ≡ k.0 = one_id text h.0 k.0 h.1 k.1 in
    one_told (Answers (record { kind = kind; id = k.0 })) (data_of k.0) (one (record { kind = kind; id = k.0 })) r s
    (subst (λ (id : List ℕ). TellsAnswer (Answers (record { kind = kind; id = id })) (data_of id) r) same h.2) k.2

one_resolve_reply : (bodies : Bodies) (text : List ℕ) (r s : Reply) → IsResolveReply bodies text r → IsResolveReply bodies text s → r ≡ s
one_resolve_reply bodies text r s (inl h) (inl k) = h.1 ∙ sym k.1
one_resolve_reply bodies text r s (inl h) (inr k) = absurd (h.0 k.0 k.1)
one_resolve_reply bodies text r s (inr h) (inl k) = absurd (k.0 h.0 h.1)
one_resolve_reply bodies text r s (inr h) (inr k) =
    one_told (IsResolveAnswer bodies k.0) resolved_data (one_resolution_lem bodies k.0) r s
    (subst (λ (swhid : Swhid). TellsAnswer (IsResolveAnswer bodies swhid) resolved_data r) (one_value text h.0 k.0 h.1 k.1) h.2) k.2

one_cook_reply : (bodies : Bodies) (text : List ℕ) (r s : Reply) → IsCookReply bodies text r → IsCookReply bodies text s → r ≡ s
one_cook_reply bodies text r s (inl h) (inl k) = h.1 ∙ sym k.1
one_cook_reply bodies text r s (inl h) (inr k) = absurd (h.0 k.0 k.1)
one_cook_reply bodies text r s (inr h) (inl k) = absurd (k.0 h.0 h.1)
one_cook_reply bodies text r s (inr h) (inr k) =
    one_cook_told bodies k.0 r s (subst (λ (name : Name). TellsCook bodies name r) (one_core text h.0 k.0 h.1.core k.1.core) h.2) k.2

-- ---- requests

one_shape_reply : (a : Archive) (body : List ℕ) (shape : Shape) (r s : Reply) → IsShapeReply a body shape r → IsShapeReply a body shape s → r ≡ s
one_shape_reply a body Known r s h k = one_known_reply a body r s h k
one_shape_reply a body (Visits url) r s h k = one_origin_reply visits_data a url r s h k
one_shape_reply a body (Origin url) r s h k = one_origin_reply origin_data a url r s h k
one_shape_reply a body (Revision id) r s h k = one_id_reply kind.Revision (IsRead HoldsRevision a.bodies) revision_data (one_read HoldsRevision single_revision a.bodies) id r s h k
one_shape_reply a body (Log id) r s h k = one_id_reply kind.Revision (λ root. IsLogAnswer a.bodies root log_limit) (λ _. log_data) (λ root. one_log_lem a.bodies root log_limit) id r s h k
one_shape_reply a body (Release id) r s h k = one_id_reply kind.Release (IsRead HoldsRelease a.bodies) release_data (one_read HoldsRelease single_release a.bodies) id r s h k
one_shape_reply a body (Directory id) r s h k = one_id_reply kind.Directory (IsRead HoldsDirectory a.bodies) (λ _. directory_data) (one_read HoldsDirectory single_directory a.bodies) id r s h k
one_shape_reply a body (Entry id path) r s h k =
    one_id_reply kind.Directory (λ root. IsPathAnswer a.bodies root (percent_decode path)) (λ _. entry_data) (λ root. one_path_lem a.bodies root (percent_decode path)) id r s h k
one_shape_reply a body (Snapshot id) r s h k = one_id_reply kind.Snapshot (IsRead HoldsSnapshot a.bodies) snapshot_data (one_read HoldsSnapshot single_snapshot a.bodies) id r s h k
one_shape_reply a body (Content id) r s h k = one_content_reply a id r s h k
one_shape_reply a body (Resolve text) r s h k = one_resolve_reply a.bodies text r s h k
one_shape_reply a body (Raw core) r s h k = one_raw_reply a core r s h k
one_shape_reply a body (Cook core) r s h k = one_cook_reply a.bodies core r s h k
one_shape_reply a body (Load url) r s h k = h.1 ∙ sym k.1

one_reply_to : (a : Archive) (request : Request) (shape : Shape) (r s : Reply) → IsReplyTo a request shape r → IsReplyTo a request shape s → r ≡ s
one_reply_to a request shape r s (inl h) (inl k) = h.1 ∙ sym k.1
one_reply_to a request shape r s (inl h) (inr k) = absurd (h.0 k.0)
one_reply_to a request shape r s (inr h) (inl k) = absurd (k.0 h.0)
one_reply_to a request shape r s (inr h) (inr k) = one_shape_reply a request.body shape r s h.1 k.1

pub one_answer : (a : Archive) (request : Request) (r s : Reply) → IsAnswer a request r → IsAnswer a request s → r ≡ s
one_answer a request r s (inl h) (inl k) = h.1 ∙ sym k.1
one_answer a request r s (inl h) (inr k) = absurd (h.0 k.0 k.1)
one_answer a request r s (inr h) (inl k) = absurd (k.0 h.0 h.1)
one_answer a request r s (inr h) (inr k) =
    one_reply_to a request k.0 r s (subst (λ (shape : Shape). IsReplyTo a request shape r) (one_shape request.path h.0 k.0 h.1 k.1) h.2) k.2

pub one_reply_to_get : (a : Archive) (path : List ℕ) (r s : ReplyText) → IsReplyToGet a path r → IsReplyToGet a path s → r ≡ s
one_reply_to_get a path r s h k = h.told ∙ ap text_of (one_answer a (get_request path) h.reply k.reply h.answer k.answer) ∙ sym k.told
