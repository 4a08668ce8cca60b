-- What one more piece of a connection's bytes comes to.
use Rattle.std.specs.Prelude.{◌≡◌, ◌≢◌, ℕ, ◌+◌, ◌<◌, true, List, [], ◌++◌, length, Option, Some, None, Result, Ok, Err}
use Rattle.swh_http.specs.Wire.{AreAsks, AwaitsBytes, held_length}
use Rattle.swh_serve.specs.declared.fault.PutFault.{PutFault}
use Rattle.swh_serve.specs.declared.fault.ServeFault.{ServeFault}
use Rattle.swh_serve.specs.declared.fault.ServeFault.TheVariants.{Read, Write, Short, Memory}
use Rattle.swh_serve.specs.declared.progress.Progress.{Progress}
use Rattle.swh_serve.specs.declared.progress.Progress.TheVariants.{Open, Closed}
use Rattle.swh_serve.specs.declared.reading.Came.{Came}
use Rattle.swh_serve.specs.declared.reading.Came.TheVariants.{Asks, End}
use Rattle.swh_serve.specs.Causes.{serve_fault}
use Rattle.swh_serve.specs.Desk.{Protocol}
use Rattle.swh_serve.specs.Turns.{Turn, asks_of, AreTurns, AreKept, requests_limit}
use Rattle.swh_serve.specs.Served.{Seen, StaysOpen, PutsAll, IsServedFrom}

-- A session goes on, and waits for more bytes.
abbrev pub IsWaiting : Option (List ℕ) → Type 0
IsWaiting (Some held) = AwaitsBytes held
IsWaiting None = ⊥

-- how a connection stands behind replies, or the fault by which one was not put whole
abbrev pub IsProgressOf : Result Progress PutFault → Result Progress ServeFault → Type 0
IsProgressOf (Ok progress) now = now ≡ Ok progress
IsProgressOf (Err fault) now = now ≡ Err (serve_fault fault)

-- how a connection has ended where its link has: with no bytes waiting, or with some
abbrev pub IsSessionEnd : Option (List ℕ) → ℕ → Result Progress ServeFault → Type 0
IsSessionEnd session requests (Ok (Closed n)) = (n ≡ requests) × (held_length session ≡ 0)
IsSessionEnd session requests (Err (Short held)) = (held ≡ held_length session) × (0 < held)
IsSessionEnd session requests _ = ⊥

module _ (Tells : Type 0) where
  -- A link that tells gave these bytes.
  abbrev pub Gives : List ℕ → Seen → Seen → Type 0
  Gives piece old new = Tells → new.given ≡ old.given ++ piece

  -- what was read, behind bytes that are held
  abbrev pub IsRead : List ℕ → Seen → Seen → Option (List ℕ) → Result Came ServeFault → Type 0
  IsRead held old new session (Ok (Asks asks)) =
      (piece : List ℕ) × (piece ≢ []) × AreAsks (held ++ piece) asks.items session × Gives piece old new × StaysOpen Tells old new
  IsRead held old new session (Ok End) = (session ≡ Some held) × Gives [] old new × (Tells → new.ended ≡ true)
  IsRead held old new session (Err Read) = Gives [] old new × StaysOpen Tells old new
  IsRead held old new session (Err Memory) = (piece : List ℕ) × Gives piece old new × StaysOpen Tells old new
  IsRead held old new session (Err Write) = ⊥
  IsRead held old new session (Err (Short n)) = ⊥

module _ {S : Type 0} (p : Protocol S) (Tells : Type 0) where
  -- A connection goes on: with one more piece the bytes are asks, and each was replied to.
  pub record GoesOn (n : ℕ) (held : List ℕ) (s s' : S) (old new : Seen) (requests : ℕ) (now_held : List ℕ) : Type 0 where
    pub piece : List ℕ
    pub some : piece ≢ []
    pub turns : List Turn
    pub asks : AreAsks (held ++ piece) (asks_of turns) (Some now_held)
    pub answered : AreTurns p n turns s s'
    pub kept : AreKept turns
    pub count : requests ≡ n + length turns
    pub few : requests < requests_limit
    pub given : Gives Tells piece old new
    pub put : PutsAll Tells turns old new
    pub stays : StaysOpen Tells old new

  -- what came of one more piece: the connection goes on, or it has ended
  abbrev pub IsPieceEnd : ℕ → List ℕ → S → S → Seen → Seen → Option (List ℕ) → Result Progress ServeFault → Type 0
  IsPieceEnd n held s s' old new session (Ok (Open requests)) =
      (now_held : List ℕ) × (session ≡ Some now_held) × GoesOn n held s s' old new requests now_held
  IsPieceEnd n held s s' old new session (Ok (Closed requests)) = IsServedFrom p Tells n held s s' old new (Ok (record { requests = requests }))
  IsPieceEnd n held s s' old new session (Err fault) = IsServedFrom p Tells n held s s' old new (Err fault)
