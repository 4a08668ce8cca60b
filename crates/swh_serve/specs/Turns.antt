-- What is replied on a connection, and the bytes that go out for it (RFC 9110, section 9.3.2; RFC 9112, section 9).
use Rattle.std.specs.Prelude.{◌≡◌, ◌⊎◌, ℕ, ◌+◌, ◌&&◌, not, nat_lt, Bool, true, false, List, [], ◌∷◌, ◌++◌, map, take, codes, bytes_eq, if◌then◌else◌}
use Rattle.std.specs.List.{AllByRecursion, flat_map}
use Rattle.swh_base.specs.declared.request.Request.{Request}
use Rattle.swh_base.specs.declared.request.Reply.{Reply}
use Rattle.swh_http.specs.declared.ask.Ask.{Ask}
use Rattle.swh_http.specs.declared.ask.Ask.TheVariants.{Request as Asked, Refused}
use Rattle.swh_http.specs.Reply.{head_text, reply_text}
use Rattle.swh_replies.specs.Json.{error_reply}
use Rattle.swh_api.specs.Refusal.{refusal_word}
use Rattle.swh_serve.specs.Desk.{Protocol}

-- An ask that was replied to, the reply, and whether the connection is kept behind it.
pub record Turn : Type 0 where
  pub ask : Ask
  pub reply : Reply
  pub keep : Bool

abbrev pub turn_of : Ask → Reply → Bool → Turn
turn_of ask reply keep = record { ask = ask; reply = reply; keep = keep }

abbrev pub asks_of : List Turn → List Ask
asks_of turns = map (λ t. t.ask) turns

-- ---- bytes

-- whether a request is a HEAD; methods are told apart by case
abbrev pub is_head : Request → Bool
is_head request = bytes_eq request.method (codes "HEAD")

-- the bytes of a reply to a request: of a HEAD the head alone, since a client reads no body behind it
abbrev pub answer_text : Request → Reply → Bool → List ℕ
answer_text request reply keep = if is_head request then head_text reply keep else reply_text reply keep

-- the bytes of a reply to an ask
abbrev pub ask_text : Ask → Reply → Bool → List ℕ
ask_text (Asked request) reply keep = answer_text request reply keep
ask_text (Refused status) reply keep = reply_text reply keep

abbrev pub text_of : Turn → List ℕ
text_of t = ask_text t.ask t.reply t.keep

abbrev pub texts_of : List Turn → List ℕ
texts_of turns = flat_map text_of turns

-- ---- replies

-- the most requests that are answered on a connection
abbrev pub requests_limit : ℕ
requests_limit = 1000

-- the reply to bytes that a session refuses with this status
abbrev pub refused_reply : ℕ → Reply
refused_reply status = error_reply status (refusal_word status)

-- the reply to a request for which there is no memory
abbrev pub starved_reply : Reply
starved_reply = error_reply 503 (codes "memory")

-- whether the connection is kept behind the reply to a request, behind so many others
abbrev pub keeps : ℕ → Request → Bool → Bool
keeps n request closes = request.keep && not closes && nat_lt (n + 1) requests_limit

-- The connection is kept behind each of these.
abbrev pub AreKept : List Turn → Type 0
AreKept turns = AllByRecursion (λ t. t.keep ≡ true) turns

-- The last of these closes the connection.
pub record LastCloses (turns : List Turn) : Type 0 where
  pub front : List Turn
  pub last : Turn
  pub are : turns ≡ front ++ last ∷ []
  pub closes : last.keep ≡ false

module _ {S : Type 0} (p : Protocol S) where
  -- The desk replied to a request; or memory ran out, which is told.
  abbrev pub IsReply : Request → Reply → Bool → S → S → Type 0
  IsReply request reply closes s s' =
      p.answers request reply closes s s'
      ⊎ ((reply ≡ starved_reply) × (closes ≡ false) × p.lacks request s s')

  -- An ask was replied to, behind so many others. A refusal closes the connection, and the desk is not asked.
  abbrev pub IsTurn : ℕ → Ask → Reply → Bool → S → S → Type 0
  IsTurn n (Asked request) reply keep s s' =
      (closes : Bool) × IsReply request reply closes s s' × (keep ≡ keeps n request closes)
  IsTurn n (Refused status) reply keep s s' = (reply ≡ refused_reply status) × (keep ≡ false) × (s' ≡ s)

  -- Asks were replied to one after another, behind so many others. Nothing is behind a turn that closes.
  abbrev pub AreTurns : ℕ → List Turn → S → S → Type 0
  AreTurns n [] s s' = s' ≡ s
  AreTurns n (t ∷ turns) s s' =
      (mid : S) × IsTurn n t.ask t.reply t.keep s mid × (t.keep ≡ false → turns ≡ []) × AreTurns (n + 1) turns mid s'

-- ---- where not all was put

-- All was put of these turns but of the last, of which some first bytes were.
pub record PutsPart (turns : List Turn) (before now : List ℕ) : Type 0 where
  pub front : List Turn
  pub last : Turn
  pub are : turns ≡ front ++ last ∷ []
  pub count : ℕ
  pub is : now ≡ before ++ texts_of front ++ take count (text_of last)

-- All was put of these turns but of the last, of which nothing was.
pub record LacksLast (turns : List Turn) (before now : List ℕ) : Type 0 where
  pub front : List Turn
  pub last : Turn
  pub are : turns ≡ front ++ last ∷ []
  pub is : now ≡ before ++ texts_of front
