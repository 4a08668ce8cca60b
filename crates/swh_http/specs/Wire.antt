-- The requests that the bytes of a connection are, whatever pieces they come in (RFC 9112).
use Rattle.std.specs.Prelude.{◌≡◌, ◌⊎◌, ℕ, ◌<◌, ◌≤◌, List, [], ◌∷◌, ◌++◌, length, map, Option, Some, None}
use Rattle.httparse.specs.Grammar.{RequestHead, print_request, ReadsRequest, HasNoRequest, NeverHasRequest, MayBecomeRequest, EndsInTarget}
use Rattle.httparse.specs.Spans.{name_and_value}
use Rattle.swh_base.specs.declared.request.Request.{Request}
use Rattle.swh_http.specs.Field.{Pair, AreTakenFields, IsRefusedAs, keeps}
use Rattle.swh_http.specs.declared.ask.Ask.{Ask}
use Rattle.swh_http.specs.declared.ask.Ask.TheVariants.{Request as Asked, Refused}

-- the bytes of a head, its empty lines included
abbrev pub head_limit : ℕ
head_limit = 16384

abbrev pub head_fields : RequestHead → List Pair
head_fields head = map name_and_value head.fields

-- The bytes begin with a whole head of at most so many bytes.
pub record BeginsRequestHead (bytes : List ℕ) (head : RequestHead) (rest : List ℕ) : Type 0 where
  pub reads : ReadsRequest bytes head rest
  pub short : length (print_request head) ≤ head_limit

-- The bytes begin with this request: a head, and as many bytes as it says.
pub record BeginsRequest (bytes : List ℕ) (request : Request) (rest : List ℕ) : Type 0 where
  pub head : RequestHead
  pub begins : BeginsRequestHead bytes head (request.body ++ rest)
  pub taken : AreTakenFields (head_fields head) (length request.body)
  pub method : request.method ≡ head.method
  pub path : request.path ≡ head.target
  pub keep : request.keep ≡ keeps head.minor (head_fields head)

-- The bytes are no whole head yet, and may become one.
pub record IsUnfinished (bytes : List ℕ) : Type 0 where
  pub none : HasNoRequest bytes
  pub some : MayBecomeRequest bytes

-- The bytes begin no head, whatever follows them.
pub record BeginsNoHead (bytes : List ℕ) : Type 0 where
  pub never : NeverHasRequest bytes
  pub no_target : EndsInTarget bytes → ⊥

-- the first bytes of a head, and what follows them
pub record BeginsSo (bytes front rest : List ℕ) : Type 0 where
  pub text : bytes ≡ front ++ rest
  pub short : length front ≤ head_limit

-- The bytes begin with what is refused with this status.
abbrev pub BeginsRefusal : List ℕ → ℕ → Type 0
BeginsRefusal bytes status =
    ((front : List ℕ) × (rest : List ℕ) × (status ≡ 400) × BeginsSo bytes front rest × BeginsNoHead front)
    ⊎ (((front : List ℕ) × (rest : List ℕ) × (status ≡ 431) × BeginsSo bytes front rest × IsUnfinished front
    × (length front ≡ head_limit) × (0 < length rest))
    ⊎ ((head : RequestHead) × (rest : List ℕ) × BeginsRequestHead bytes head rest × IsRefusedAs (head_fields head) status))

-- The bytes are a head without its end, or a head and a body without its end.
abbrev pub AwaitsBytes : List ℕ → Type 0
AwaitsBytes bytes =
    ((length bytes ≤ head_limit) × IsUnfinished bytes)
    ⊎ ((head : RequestHead) × (rest : List ℕ) × (n : ℕ) × BeginsRequestHead bytes head rest × AreTakenFields (head_fields head) n
    × (length rest < n))

-- What the bytes ask, and the bytes that wait for more; none wait after a refusal.
unfoldable pub AreAsks : List ℕ → List Ask → Option (List ℕ) → Type 0
AreAsks bytes [] left = AwaitsBytes bytes × (left ≡ Some bytes)
AreAsks bytes (Asked request ∷ asks) left =
    (rest : List ℕ) × BeginsRequest bytes request rest × AreAsks rest asks left
AreAsks bytes (Refused status ∷ asks) left = BeginsRefusal bytes status × (asks ≡ []) × (left ≡ None)

-- how many bytes wait
abbrev pub held_length : Option (List ℕ) → ℕ
held_length None = 0
held_length (Some held) = length held
