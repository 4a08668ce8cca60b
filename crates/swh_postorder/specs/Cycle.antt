-- Names that are reached from themselves.
use Rattle.std.specs.Prelude.{◌≡◌, Option, List, ◌∷◌, ◌++◌, Contains}
use Rattle.swh_base.specs.declared.name.Name.{Name}
use Rattle.swh_base.specs.Reach.{IsChildIn, ReachesIn}
use Rattle.swh_postorder.specs.Postorder.{IsPostorder}

module _ (children_of : Name → Option (List Name)) where
  -- A walk leads from the name over one of its children back to it.
  pub record IsOnCycle (name : Name) : Type 0 where
    pub child : Name
    pub is_child : IsChildIn children_of name child
    pub returns : ReachesIn children_of child name

  -- The name is the first in the order that is on a cycle.
  pub record IsFirstOnCycle (order : List Name) (name : Name) : Type 0 where
    pub before : List Name
    pub behind : List Name
    pub cut : order ≡ before ++ name ∷ behind
    pub is : IsOnCycle name
    pub none : (n : Name) → Contains before n → IsOnCycle n → ⊥

  -- These are the names that a walk leaves, in its order.
  pub record IsSomePostorder (order : List Name) : Type 0 where
    pub root : Name
    pub is : IsPostorder children_of root order

  -- Each child of a name in the list stands in it before the name.
  abbrev pub ArePreceded : List Name → Type 0
  ArePreceded names = (before : List Name) (name : Name) (behind : List Name) → names ≡ before ++ name ∷ behind → (child : Name) → IsChildIn children_of name child → Contains before child
