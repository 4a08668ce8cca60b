-- That there is one reply.
use Rattle.std.proofs.Common.{◌≡◌, inl, inr, ℕ, List, [], ◌∷◌, refl, sym, ap, ap₂, ◌∙◌}
use Rattle.std.specs.List.{AllByRecursion}
use Rattle.serde_json.specs.Data.{Data}
use Rattle.swh_base.specs.declared.name.Name.{Name}
use Rattle.swh_base.specs.declared.request.Reply.{Reply}
use Rattle.swh_base.specs.Name.{IsName}
use Rattle.swh_base.proofs.HexLines.{hex-injective}
use Rattle.swh_model.specs.declared.event.Visit.{Visit}
use Rattle.swh_model.specs.Archive.{Archive, body_of, visits_of}
use Rattle.swh_swhid.specs.Core.{core_text}
use Rattle.swh_swhid.proofs.Cores.{core-injective}
use Rattle.swh_replies.specs.Json.{content_data, known_data, tree_reply}
use Rattle.swh_replies.specs.Known.{later_tokens, ListsNames}
use Rattle.swh_replies.specs.Answers.{SpellsUrl, SpellsId, SpellsCore, of_visits, of_body, content_name, plain_reply, IsOriginReply, IsContentReply, IsRawReply, IsKnownReply}

-- ---- texts

pub one_url : (text u v : List ℕ) → SpellsUrl text u → SpellsUrl text v → u ≡ v
one_url text u v h k = h.decoded ∙ sym k.decoded

pub one_id : (text a b : List ℕ) → SpellsId text a → SpellsId text b → a ≡ b
one_id text a b h k = hex-injective a b h.is_id.1 k.is_id.1 (sym h.digits ∙ k.digits)

pub one_core : (text : List ℕ) (n m : Name) → SpellsCore text n → SpellsCore text m → n ≡ m
one_core text n m h k = core-injective n m h.is_name k.is_name (sym h.core ∙ k.core)

-- ---- names

same_names : (ns ms : List Name) → AllByRecursion IsName ns → AllByRecursion IsName ms → later_tokens ns ≡ later_tokens ms → ns ≡ ms
same_names [] [] h k e = refl
same_names [] (m ∷ ms) h k e = absurd cc
same_names (n ∷ ns) [] h k e = absurd cc
same_names (n ∷ ns) (m ∷ ms) h k e =
    let texts : core_text n ≡ core_text m = cc in
    let tails : later_tokens ns ≡ later_tokens ms = cc in
    ap₂ ◌∷◌ (core-injective n m h.0 k.0 texts) (same_names ns ms h.1 k.1 tails)

pub one_names : (body : List ℕ) (ns ms : List Name) → ListsNames body ns → ListsNames body ms → ns ≡ ms
one_names body ns ms h k =
    let both = sym h.array ∙ k.array in
    let tails : later_tokens ns ≡ later_tokens ms = cc in
    same_names ns ms h.are_names k.are_names tails

-- ---- replies

pub one_origin_reply : (data_of : List ℕ → List Visit → Data) (a : Archive) (text : List ℕ) (r s : Reply) → IsOriginReply data_of a text r → IsOriginReply data_of a text s → r ≡ s
one_origin_reply data_of a text r s (inl h) (inl k) = h.1 ∙ sym k.1
one_origin_reply data_of a text r s (inl h) (inr k) = absurd (h.0 k.0 k.1)
one_origin_reply data_of a text r s (inr h) (inl k) = absurd (k.0 h.0 h.1)
one_origin_reply data_of a text r s (inr h) (inr k) =
    h.2 ∙ ap (λ (url : List ℕ). of_visits (data_of url) (visits_of a.origins url)) (one_url text h.0 k.0 h.1 k.1) ∙ sym k.2

pub one_content_reply : (a : Archive) (text : List ℕ) (r s : Reply) → IsContentReply a text r → IsContentReply a text s → r ≡ s
one_content_reply a text r s (inl h) (inl k) = h.1 ∙ sym k.1
one_content_reply a text r s (inl h) (inr k) = absurd (h.0 k.0 k.1)
one_content_reply a text r s (inr h) (inl k) = absurd (k.0 h.0 h.1)
one_content_reply a text r s (inr h) (inr k) =
    h.2 ∙ ap (λ (id : List ℕ). of_body (content_name id) (λ body. tree_reply 200 (content_data (content_name id) body)) (body_of a.bodies (content_name id))) (one_id text h.0 k.0 h.1 k.1) ∙ sym k.2

pub one_raw_reply : (a : Archive) (text : List ℕ) (r s : Reply) → IsRawReply a text r → IsRawReply a text s → r ≡ s
one_raw_reply a text r s (inl h) (inl k) = h.1 ∙ sym k.1
one_raw_reply a text r s (inl h) (inr k) = absurd (h.0 k.0 k.1)
one_raw_reply a text r s (inr h) (inl k) = absurd (k.0 h.0 h.1)
one_raw_reply a text r s (inr h) (inr k) = h.2 ∙ ap (λ (name : Name). of_body name plain_reply (body_of a.bodies name)) (one_core text h.0 k.0 h.1 k.1) ∙ sym k.2

pub one_known_reply : (a : Archive) (body : List ℕ) (r s : Reply) → IsKnownReply a body r → IsKnownReply a body s → r ≡ s
one_known_reply a body r s (inl h) (inl k) = h.1 ∙ sym k.1
one_known_reply a body r s (inl h) (inr k) = absurd (h.0 k.0 k.1)
one_known_reply a body r s (inr h) (inl k) = absurd (k.0 h.0 h.1)
one_known_reply a body r s (inr h) (inr k) = h.2 ∙ ap (λ (names : List Name). tree_reply 200 (known_data a.bodies names)) (one_names body h.0 k.0 h.1 k.1) ∙ sym k.2
