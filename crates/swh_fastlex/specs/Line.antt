-- Windows over a source, and what is read through one: lines, and bytes that are counted.
use Rattle.std.specs.Prelude.{◌≡◌, ◌≢◌, ◌<◌, ◌≤◌, ◌+◌, ◌-◌, ℕ, Bool, true, false, MatchBool, List, [], ◌∷◌, ◌++◌, Contains, length, take, drop}

-- what a window holds and has not given out, and how many bytes it gave out
pub record Held : Type 0 where
  pub bytes : List ℕ
  pub place : ℕ

-- what a window holds between two places of its buffer
abbrev pub held_between : List ℕ → ℕ → ℕ → ℕ → Held
held_between buffer start end place = record { bytes = take (end - start) (drop start buffer); place = place }

-- what is to be read: what the window holds, and then what the source has left
abbrev pub unread : Held → List ℕ → List ℕ
unread window left = window.bytes ++ left

-- the first of what was to be read was given out, and counted
pub record Takes (before now : Held) (left left_now taken : List ℕ) : Type 0 where
  pub cut : unread before left ≡ taken ++ unread now left_now
  pub counted : now.place ≡ before.place + length taken

-- bytes up to and with their first LF
pub record IsLine (bytes : List ℕ) : Type 0 where
  pub front : List ℕ
  pub no_feed : Contains front 10 → ⊥
  pub text : bytes ≡ front ++ 10 ∷ []

-- There was nothing to be read.
pub record IsAtEnd (before now : Held) (left left_now : List ℕ) : Type 0 where
  pub nothing : unread before left ≡ []
  pub nothing_now : unread now left_now ≡ []
  pub same_place : now.place ≡ before.place

-- All that was to be read is the front of a line, no longer than the limit and without its LF. It is read.
pub record IsCutLine (limit : ℕ) (before now : Held) (left left_now : List ℕ) : Type 0 where
  pub some : unread before left ≢ []
  pub no_feed : Contains (unread before left) 10 → ⊥
  pub short : length (unread before left) ≤ limit
  pub nothing_now : unread now left_now ≡ []
  pub counted : now.place ≡ before.place + length (unread before left)

-- The first bytes that were to be read, as many as the limit, have no LF, and more follows. They alone are read.
pub record IsLongLine (limit : ℕ) (before now : Held) (left left_now : List ℕ) : Type 0 where
  pub front : List ℕ
  pub no_feed : Contains front 10 → ⊥
  pub long : length front ≡ limit
  pub taken : Takes before now left left_now front
  pub more : unread now left_now ≢ []

-- There were fewer bytes to be read than were wanted. They are read.
pub record IsCutData (wanted : ℕ) (before now : Held) (left left_now : List ℕ) : Type 0 where
  pub short : length (unread before left) < wanted
  pub nothing_now : unread now left_now ≡ []
  pub counted : now.place ≡ before.place + length (unread before left)

-- The front of the window goes to the end of the line: up to and with its first LF, or some bytes without one.
pub record MovesFront (before now : Held) (line line_now : List ℕ) (room : ℕ) (ended : Bool) : Type 0 where
  pub front : List ℕ
  pub cut : before.bytes ≡ front ++ now.bytes
  pub counted : now.place ≡ before.place + length front
  pub joined : line_now ≡ line ++ front
  pub within : length front ≤ room
  pub some : 0 < length before.bytes → 0 < length front
  pub stops : MatchBool ended (IsLine front) (Contains front 10 → ⊥)

-- The front of the window goes to the end of the data, as much of it as there is room for.
pub record MovesBytes (before now : Held) (taken taken_now : List ℕ) (room : ℕ) : Type 0 where
  pub front : List ℕ
  pub cut : before.bytes ≡ front ++ now.bytes
  pub counted : now.place ≡ before.place + length front
  pub joined : taken_now ≡ taken ++ front
  pub within : length front ≤ room
  pub some : 0 < length before.bytes → 0 < length front

-- What is to be read does not begin with an LF, and all of it stays.
pub record StaysUnread (before now : Held) (left left_now : List ℕ) : Type 0 where
  pub no_feed : (rest : List ℕ) → unread before left ≡ 10 ∷ rest → ⊥
  pub same : unread now left_now ≡ unread before left
  pub same_place : now.place ≡ before.place

-- What is to be read begins with an LF, which is read; or it does not, and all of it stays.
abbrev pub TakesFeed : Held → Held → List ℕ → List ℕ → Bool → Type 0
TakesFeed before now left left_now true = Takes before now left left_now (10 ∷ [])
TakesFeed before now left left_now false = StaysUnread before now left left_now
