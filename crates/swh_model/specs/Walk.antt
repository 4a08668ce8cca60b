-- What a walk over what is held has met.
use Rattle.std.specs.Prelude.{◌≡◌, ◌⊎◌, Some, None, List, [], ◌∷◌, ◌++◌, Contains}
use Rattle.std.specs.List.{AllByRecursion}
use Rattle.swh_base.specs.declared.name.Name.{Name}
use Rattle.swh_base.specs.declared.entry.Entry.{Entry}
use Rattle.swh_model.specs.Archive.{Bodies, body_of, IsHeld, IsChild, Reaches}
use Rattle.swh_model.specs.Step.{HasItsChildren}

-- The entry has the name, its body is held under it, and its children are those of the body.
pub record IsEntryOf (bodies : Bodies) (n : Name) (e : Entry) : Type 0 where
  pub name : e.name ≡ n
  pub held : body_of bodies n ≡ Some e.body
  pub good : HasItsChildren e

-- The list is the same, or has the name more at its end.
abbrev pub MayGain : List Name → List Name → Name → Type 0
MayGain old new name = (new ≡ old) ⊎ (new ≡ old ++ name ∷ [])

-- A child that is held.
abbrev pub IsHeldChild : Bodies → Name → Name → Type 0
IsHeldChild bodies parent n = IsChild bodies parent n × IsHeld bodies n

-- More names stand after, each a held child of the parent.
pub record GainsChildren (bodies : Bodies) (parent : Name) (old new : List Name) : Type 0 where
  pub more : List Name
  pub behind : new ≡ old ++ more
  pub held_children : AllByRecursion (IsHeldChild bodies parent) more

-- More names stand after, each one of these and held.
pub record GainsHeld (bodies : Bodies) (names old new : List Name) : Type 0 where
  pub more : List Name
  pub behind : new ≡ old ++ more
  pub held_names : AllByRecursion (λ n. Contains names n × IsHeld bodies n) more

-- More names stand after, each reached from the root and held.
pub record GainsReached (bodies : Bodies) (root : Name) (old new : List Name) : Type 0 where
  pub more : List Name
  pub behind : new ≡ old ++ more
  pub reached : AllByRecursion (λ n. Reaches bodies root n × IsHeld bodies n) more

-- The parent is reached from the root, the child is one of its children, and the child is not held.
pub record IsGap (bodies : Bodies) (root parent child : Name) : Type 0 where
  pub reached : Reaches bodies root parent
  pub is_child : IsChild bodies parent child
  pub missing : body_of bodies child ≡ None
