-- What a walk has met.
use Rattle.std.specs.Prelude.{◌≡◌, ◌⊎◌, ◌+◌, ◌≤◌, Some, Option, List, [], ◌++◌, Contains, length}
use Rattle.swh_base.specs.declared.name.Name.{Name}
use Rattle.swh_base.specs.Reach.{IsHeldIn, IsCovered}
use Rattle.swh_closure.specs.declared.met.Turn.{Turn}
use Rattle.swh_closure.specs.declared.met.Met.{Met}

-- One of the turns is the name's.
pub record IsDue (turns : List Turn) (n : Name) : Type 0 where
  pub turn : Turn
  pub there : Contains turns turn
  pub named : turn.name ≡ n

-- The turn has the name's children, and the name is listed.
pub record IsTurn (children_of : Name → Option (List Name)) (names : List Name) (turn : Turn) : Type 0 where
  pub kids : children_of turn.name ≡ Some turn.kids.now
  pub listed : Contains names turn.name

-- The name is among these names and held, and is not known to be closed; and it has no children, or has its turn.
pub record IsNew (children_of : Name → Option (List Name)) (closed names : List Name) (turns : List Turn) (n : Name) : Type 0 where
  pub one_of : Contains names n
  pub held : IsHeldIn children_of n
  pub unknown : Contains closed n → ⊥
  pub due : (children_of n ≡ Some []) ⊎ IsDue turns n

-- The names were met: each is listed or known to be closed, what is listed anew is one of them, and more turns came, of
-- what is listed, and no more of them than names.
pub record Meets (children_of : Name → Option (List Name)) (closed names : List Name) (old new : Met) : Type 0 where
  pub stay : (n : Name) → Contains old.names n → Contains new.names n
  pub each : (n : Name) → Contains new.names n → Contains old.names n ⊎ IsNew children_of closed names new.turns.items n
  pub all : (n : Name) → Contains names n → IsCovered closed new.names n
  pub more : List Turn
  pub behind : new.turns.items ≡ old.turns.items ++ more
  pub turns : (turn : Turn) → Contains more turn → IsTurn children_of new.names turn
  pub count : length new.turns.items + length old.names ≤ length old.turns.items + length new.names
