-- How asks are replied to, in order.
use Rattle.std.specs.Prelude.{◌≡◌, ◌⊎◌, ℕ, ◌+◌, ◌<◌, Bool, List, [], ◌∷◌, ◌++◌, length, Result, Ok, Err}
use Rattle.swh_base.specs.declared.request.Reply.{Reply}
use Rattle.swh_http.specs.declared.ask.Ask.{Ask}
use Rattle.swh_http.specs.declared.ask.Ask.TheVariants.{Request as Asked, Refused}
use Rattle.swh_http.specs.Reply.{HasBody}
use Rattle.swh_outside.specs.Sink.{TakesSome}
use Rattle.swh_serve.specs.declared.fault.PutFault.{PutFault}
use Rattle.swh_serve.specs.declared.fault.PutFault.TheVariants.{Write, Memory}
use Rattle.swh_serve.specs.declared.progress.Progress.{Progress}
use Rattle.swh_serve.specs.declared.progress.Progress.TheVariants.{Open, Closed}
use Rattle.swh_serve.specs.Desk.{Protocol}
use Rattle.swh_serve.specs.Turns.{Turn, asks_of, ask_text, texts_of, IsTurn, AreTurns, AreKept, LastCloses, PutsPart, LacksLast, requests_limit}

-- A reply to this ask has a body.
abbrev pub MayBeReplied : Ask → Type 0
MayBeReplied (Asked request) = Unit {0}
MayBeReplied (Refused status) = HasBody status

-- A seat may be asked again where the connection is kept.
abbrev pub IsReadyBehind : {S : Type 0} → Protocol S → S → Progress → Type 0
IsReadyBehind p s (Open requests) = p.ready s
IsReadyBehind p s (Closed requests) = Unit {0}

module _ {S : Type 0} (p : Protocol S) (Tells : Type 0) where
  -- what came of one ask, behind n others, by the bytes on a sink that tells
  abbrev pub IsAskEnd : ℕ → Ask → S → S → List ℕ → List ℕ → Result Bool PutFault → Type 0
  IsAskEnd n ask s s' before now (Ok keep) =
      (reply : Reply) × IsTurn p n ask reply keep s s' × (Tells → now ≡ before ++ ask_text ask reply keep)
  IsAskEnd n ask s s' before now (Err Write) =
      (reply : Reply) × (keep : Bool) × IsTurn p n ask reply keep s s' × (Tells → TakesSome before (ask_text ask reply keep) now)
  IsAskEnd n ask s s' before now (Err Memory) =
      (Tells → now ≡ before)
      × ((s' ≡ s) ⊎ ((reply : Reply) × (keep : Bool) × IsTurn p n ask reply keep s s'))

  -- what came of asks, of which these turns were, and these remain
  abbrev pub IsAsksEnd : ℕ → List Turn → List Ask → List ℕ → List ℕ → Result Progress PutFault → Type 0
  IsAsksEnd n turns more before now (Ok (Open requests)) =
      (requests ≡ n + length turns) × (requests < requests_limit) × AreKept turns × (more ≡ [])
      × (Tells → now ≡ before ++ texts_of turns)
  IsAsksEnd n turns more before now (Ok (Closed requests)) =
      (requests ≡ n + length turns) × LastCloses turns × (Tells → now ≡ before ++ texts_of turns)
  IsAsksEnd n turns more before now (Err Write) = Tells → PutsPart turns before now
  IsAsksEnd n turns more before now (Err Memory) =
      (AreKept turns × (Tells → now ≡ before ++ texts_of turns)) ⊎ (Tells → LacksLast turns before now)

  -- Asks were replied to in order, behind n others, up to the first reply that closes, or up to a fault.
  pub record AreReplied (n : ℕ) (asks : List Ask) (s s' : S) (before now : List ℕ) (result : Result Progress PutFault) : Type 0 where
    pub turns : List Turn
    pub more : List Ask
    pub are : asks ≡ asks_of turns ++ more
    pub answered : AreTurns p n turns s s'
    pub end : IsAsksEnd n turns more before now result
