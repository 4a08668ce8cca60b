-- What a connection comes to: how the bytes that came in, those that went out and the end belong together.
use Rattle.std.specs.Prelude.{◌≡◌, ◌≢◌, ◌⊎◌, ℕ, ◌+◌, Bool, true, List, [], ◌++◌, length, Option, Some, Result, Ok, Err}
use Rattle.swh_http.specs.declared.ask.Ask.{Ask}
use Rattle.swh_http.specs.Wire.{AreAsks}
use Rattle.swh_serve.specs.declared.fault.ServeFault.{ServeFault}
use Rattle.swh_serve.specs.declared.fault.ServeFault.TheVariants.{Read, Write, Short, Memory}
use Rattle.swh_serve.specs.declared.serving.Served.{Served}
use Rattle.swh_serve.specs.Desk.{Protocol}
use Rattle.swh_serve.specs.Turns.{Turn, asks_of, texts_of, AreTurns, AreKept, LastCloses, PutsPart, LacksLast}

-- What is seen of a link: the bytes that it gave, whether its end was met, and the bytes that it took.
pub record Seen : Type 0 where
  pub given : List ℕ
  pub ended : Bool
  pub taken : List ℕ

-- a link as it is seen by these
abbrev pub seen : {L : Type 0} → (L → List ℕ) → (L → Bool) → (L → List ℕ) → L → Seen
seen given ended taken link = record { given = given link; ended = ended link; taken = taken link }

module _ (Tells : Type 0) where
  -- The end of a link that tells was not met.
  abbrev pub StaysOpen : Seen → Seen → Type 0
  StaysOpen old new = Tells → new.ended ≡ old.ended

  -- All was put of these turns.
  abbrev pub PutsAll : List Turn → Seen → Seen → Type 0
  PutsAll turns old new = Tells → new.taken ≡ old.taken ++ texts_of turns

  -- All that came was replied to, and the connection is kept.
  pub record AllReplied (turns : List Turn) (more : List Ask) (unread : List ℕ) (old new : Seen) : Type 0 where
    pub kept : AreKept turns
    pub none_left : more ≡ []
    pub all_read : unread ≡ []
    pub put : PutsAll turns old new

  -- A reply closed the connection, and nothing is read or put behind it.
  pub record ClosesLast (turns : List Turn) (unread : List ℕ) (old new : Seen) : Type 0 where
    pub last : LastCloses turns
    pub all_read : unread ≡ []
    pub put : PutsAll turns old new
    pub stays : StaysOpen old new

  -- All that came was replied to, and then the link ended.
  pub record Ends (turns : List Turn) (more : List Ask) (unread : List ℕ) (old new : Seen) : Type 0 where
    pub replied : AllReplied turns more unread old new
    pub ended : Tells → new.ended ≡ true

  -- how it ends, behind n turns and these
  abbrev pub IsEnd : ℕ → List Turn → List Ask → Option (List ℕ) → List ℕ → Seen → Seen → Result Served ServeFault → Type 0
  IsEnd n turns more left unread old new (Ok served) =
      (served.requests ≡ n + length turns)
      × (ClosesLast turns unread old new ⊎ (Ends turns more unread old new × (left ≡ Some [])))
  IsEnd n turns more left unread old new (Err (Short held)) =
      Ends turns more unread old new
      × ((bytes : List ℕ) × (left ≡ Some bytes) × (held ≡ length bytes) × (bytes ≢ []))
  IsEnd n turns more left unread old new (Err Read) = AllReplied turns more unread old new × StaysOpen old new
  IsEnd n turns more left unread old new (Err Write) =
      (unread ≡ []) × StaysOpen old new × (Tells → PutsPart turns old.taken new.taken)
  IsEnd n turns more left unread old new (Err Memory) =
      StaysOpen old new
      × ((AreKept turns × PutsAll turns old new) ⊎ ((unread ≡ []) × (Tells → LacksLast turns old.taken new.taken)))

module _ {S : Type 0} (p : Protocol S) (Tells : Type 0) where
  -- A connection went on to its end, from where n requests were answered and some bytes are held. The bytes that were
  -- read then are asks, of which the first were replied to in order, up to the first reply that closes; those behind
  -- them, which there are only where memory ran out, were not looked at.
  pub record IsServedFrom (n : ℕ) (held : List ℕ) (s s' : S) (old new : Seen) (result : Result Served ServeFault) : Type 0 where
    pub read : List ℕ
    pub unread : List ℕ
    pub turns : List Turn
    pub more : List Ask
    pub left : Option (List ℕ)
    pub asks : AreAsks (held ++ read) (asks_of turns ++ more) left
    pub answered : AreTurns p n turns s s'
    pub given : Tells → new.given ≡ old.given ++ read ++ unread
    pub end : IsEnd Tells n turns more left unread old new result

  -- A connection was served from its beginning to its end.
  abbrev pub IsServed : S → S → Seen → Seen → Result Served ServeFault → Type 0
  IsServed s s' old new result = IsServedFrom 0 [] s s' old new result
