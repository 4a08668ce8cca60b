-- What a session holds, and what it does with more bytes.
use Rattle.std.specs.Prelude.{◌≡◌, ℕ, ◌*◌, ◌<◌, ◌≤◌, List, [], ◌∷◌, ◌++◌, length, take, drop, Option, Some, None, vec_len, vec_capacity}
use Rattle.swh_http.specs.declared.ask.Ask.{Ask}
use Rattle.swh_http.specs.declared.ask.Ask.TheVariants.{Request as Asked, Refused}
use Rattle.swh_http.specs.declared.head_state.HeadState.{HeadState}
use Rattle.swh_http.specs.declared.state.State.{State}
use Rattle.swh_http.specs.declared.state.State.TheVariants.{Head, Body, Closed}
use Rattle.swh_http.specs.declared.state.Turn.{Turn}
use Rattle.swh_http.specs.declared.state.HeadEnd.{HeadEnd}
use Rattle.swh_http.specs.declared.state.HeadEnd.TheVariants.{Waits, Whole, Refused as NoHead}
use Rattle.swh_http.specs.Framed.{Frames, IsWholeHead}
use Rattle.swh_http.specs.HeadState.{place_of, MayContinue}
use Rattle.swh_http.specs.Wire.{head_limit, AreAsks, BeginsRequest, BeginsRefusal}

-- the bytes that wait for more; none once a refusal was given
abbrev pub held_of : State → Option (List ℕ)
held_of (Head bytes place) = Some bytes.items
held_of (Body head framed body) = Some (head.items ++ body.items)
held_of Closed = None

-- The bytes of a head end at this place, and may go on.
pub record GoesAt (bytes : List ℕ) (place : HeadState) : Type 0 where
  pub place_is : place_of bytes ≡ place
  pub goes : MayContinue place
  pub short : length bytes ≤ head_limit

-- A session in this state may take more bytes. Of a body it has room for no more than twice what has come, whatever its
-- head declares.
abbrev pub MayTakeMore : State → Type 0
MayTakeMore (Head bytes place) = GoesAt bytes.items place
MayTakeMore (Body head framed body) =
    Frames head.items framed × (length head.items ≤ head_limit) × (length body.items < framed.length)
    × (vec_capacity body ≤ 2 * vec_len body)
MayTakeMore Closed = Unit {0}

-- what the bytes of a head and more bytes come to
abbrev pub IsHeadEnd : List ℕ → List ℕ → HeadEnd → Type 0
IsHeadEnd bytes rest (Waits held place) = (held.items ≡ bytes ++ rest) × GoesAt held.items place
IsHeadEnd bytes rest (Whole head taken) =
    (0 < taken) × (taken ≤ length rest) × (head.items ≡ bytes ++ take taken rest) × IsWholeHead head.items
    × (length head.items ≤ head_limit)
IsHeadEnd bytes rest (NoHead status) = BeginsRefusal (bytes ++ rest) status

-- what held bytes and more bytes come to
abbrev pub Turns : List ℕ → List ℕ → ℕ → Option Ask → State → Type 0
Turns held rest taken None state = (taken ≡ length rest) × MayTakeMore state × (held_of state ≡ Some (held ++ rest))
Turns held rest taken (Some (Asked request)) state =
    (taken ≤ length rest) × BeginsRequest (held ++ rest) request (drop taken rest) × MayTakeMore state × (held_of state ≡ Some [])
Turns held rest taken (Some (Refused status)) state =
    (taken ≡ length rest) × BeginsRefusal (held ++ rest) status × MayTakeMore state × (held_of state ≡ None)

abbrev pub IsTurn : List ℕ → List ℕ → Turn → Type 0
IsTurn held rest turn = Turns held rest turn.taken turn.ask turn.state

-- a turn of a session that took its last byte already
pub record StaysClosed (rest : List ℕ) (turn : Turn) : Type 0 where
  pub all : turn.taken ≡ length rest
  pub silent : turn.ask ≡ None
  pub closed : turn.state ≡ Closed

-- The whole bytes are these asks, and then what the held bytes with the rest behind them are. Where no bytes wait any
-- more, the whole bytes are these asks alone.
abbrev pub SoFar : List ℕ → List Ask → Option (List ℕ) → List ℕ → Type 0
SoFar whole asks None rest = AreAsks whole asks None
SoFar whole asks (Some held) rest =
    (more : List Ask) (left : Option (List ℕ)) → AreAsks (held ++ rest) more left → AreAsks whole (asks ++ more) left

-- one more ask, where there is one
abbrev pub asks_with : List Ask → Option Ask → List Ask
asks_with asks None = asks
asks_with asks (Some ask) = asks ++ ask ∷ []
