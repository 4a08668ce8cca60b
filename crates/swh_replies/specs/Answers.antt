-- What is answered to who asks for an origin, a content, the bytes of an object, or which names are held.
use Rattle.std.specs.Prelude.{◌≡◌, ◌⊎◌, ℕ, false, Option, Some, None, List, [], ◌∷◌, IsUtf8, codes}
use Rattle.hex.specs.Hex.{encode_lower}
use Rattle.percent_encoding.specs.Percent.{percent_decode}
use Rattle.serde_json.specs.Data.{Data}
use Rattle.swh_base.specs.declared.kind.Kind.TheVariants as kind
use Rattle.swh_base.specs.declared.name.Name.{Name}
use Rattle.swh_base.specs.declared.request.Reply.{Reply}
use Rattle.swh_base.specs.Name.{IsId, IsName}
use Rattle.swh_base.specs.Url.{IsUrl}
use Rattle.swh_model.specs.declared.event.Visit.{Visit}
use Rattle.swh_model.specs.Archive.{Archive, body_of, visits_of}
use Rattle.swh_swhid.specs.Core.{core_text}
use Rattle.swh_replies.specs.Json.{content_data, known_data, not_held_data, tree_reply, error_reply}
use Rattle.swh_replies.specs.Known.{ListsNames, ListsNone}

-- ---- texts in paths

-- The text spells the URL (RFC 3986, percent-encoding).
pub record SpellsUrl (text url : List ℕ) : Type 0 where
  pub decoded : url ≡ percent_decode text
  pub utf8 : IsUtf8 url
  pub good : IsUrl url

-- The text spells no URL.
abbrev pub NoUrl : List ℕ → Type 0
NoUrl text = (url : List ℕ) → SpellsUrl text url → ⊥

-- The text is the id's forty digits.
pub record SpellsId (text id : List ℕ) : Type 0 where
  pub is_id : IsId id
  pub digits : text ≡ encode_lower id

-- The text is no id's.
abbrev pub NoId : List ℕ → Type 0
NoId text = (id : List ℕ) → SpellsId text id → ⊥

-- The text is the name's core identifier.
pub record SpellsCore (text : List ℕ) (name : Name) : Type 0 where
  pub is_name : IsName name
  pub core : text ≡ core_text name

-- The text is no core identifier.
abbrev pub NoCore : List ℕ → Type 0
NoCore text = (name : Name) → SpellsCore text name → ⊥

-- ---- refusals

-- a text is no id, no SWHID or no URL
abbrev pub bad_text : Reply
bad_text = error_reply 400 (codes "swhid")

-- there is no such path, or the origin was never opened
abbrev pub not_found : Reply
not_found = error_reply 404 (codes "not found")

-- no body is held under the name
abbrev pub not_held : Name → Reply
not_held name = tree_reply 404 (not_held_data name)

-- ---- replies

-- the reply on an origin's visits; there are none where it was never opened
abbrev pub of_visits : (List Visit → Data) → List Visit → Reply
of_visits data_of [] = not_found
of_visits data_of (v ∷ vs) = tree_reply 200 (data_of (v ∷ vs))

-- what is answered of an origin
abbrev pub IsOriginReply : (List ℕ → List Visit → Data) → Archive → List ℕ → Reply → Type 0
IsOriginReply data_of a text reply =
    (NoUrl text × (reply ≡ bad_text))
    ⊎ ((url : List ℕ) × SpellsUrl text url × (reply ≡ of_visits (data_of url) (visits_of a.origins url)))

-- the name of the content with this id
abbrev pub content_name : List ℕ → Name
content_name id = record { kind = kind.Content; id = id }

-- the reply on what is held under a name
abbrev pub of_body : Name → (List ℕ → Reply) → Option (List ℕ) → Reply
of_body name reply_of None = not_held name
of_body name reply_of (Some body) = reply_of body

-- what is answered of a content
abbrev pub IsContentReply : Archive → List ℕ → Reply → Type 0
IsContentReply a text reply =
    (NoId text × (reply ≡ bad_text))
    ⊎ ((id : List ℕ) × SpellsId text id × (reply ≡ of_body (content_name id) (λ body. tree_reply 200 (content_data (content_name id) body)) (body_of a.bodies (content_name id))))

-- a body as it is
abbrev pub plain_reply : List ℕ → Reply
plain_reply body = record { status = 200; json = false; body = body }

-- what is answered to who asks for an object's body
abbrev pub IsRawReply : Archive → List ℕ → Reply → Type 0
IsRawReply a text reply =
    (NoCore text × (reply ≡ bad_text))
    ⊎ ((name : Name) × SpellsCore text name × (reply ≡ of_body name plain_reply (body_of a.bodies name)))

-- what is answered to who asks which names are held
abbrev pub IsKnownReply : Archive → List ℕ → Reply → Type 0
IsKnownReply a body reply =
    (ListsNone body × (reply ≡ error_reply 400 (codes "json")))
    ⊎ ((names : List Name) × ListsNames body names × (reply ≡ tree_reply 200 (known_data a.bodies names)))
