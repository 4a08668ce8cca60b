-- What is reached over a graph, when all of it is held, and what shows that it is. A graph says which nodes are held, and
-- which are the children of a held one. One is given by a function from nodes to their children, none where a node is not held.
use Rattle.std.specs.Prelude.{◌≡◌, ◌⊎◌, Option, Some, List, [], ◌∷◌, Contains}

-- The node is held: the function has its children.
abbrev pub IsHeldIn : {X : Type 0} → (X → Option (List X)) → X → Type 0
IsHeldIn {X} children_of n = (kids : List X) × (children_of n ≡ Some kids)

-- The parent is held, and the child is one of its children.
pub record IsChildIn {X : Type 0} (children_of : X → Option (List X)) (parent child : X) : Type 0 where
  pub kids : List X
  pub held : children_of parent ≡ Some kids
  pub one_of : Contains kids child

-- From the first node a walk leads over these nodes, each a child of the one before, to the last.
abbrev pub IsWalk : {X : Type 0} → (X → X → Type 0) → X → List X → X → Type 0
IsWalk IsChild from [] to = from ≡ to
IsWalk IsChild from (next ∷ nodes) to = IsChild from next × IsWalk IsChild next nodes to

-- A walk from child to child leads from the first to the second.
abbrev pub Reaches : {X : Type 0} → (X → X → Type 0) → X → X → Type 0
Reaches {X} IsChild from to = (nodes : List X) × IsWalk IsChild from nodes to

-- Every node that is reached is held.
abbrev pub IsClosed : {X : Type 0} → (X → Type 0) → (X → X → Type 0) → X → Type 0
IsClosed {X} IsHeld IsChild root = (n : X) → Reaches IsChild root n → IsHeld n

-- Each of these is closed.
abbrev pub AreClosed : {X : Type 0} → (X → Type 0) → (X → X → Type 0) → List X → Type 0
AreClosed {X} IsHeld IsChild closed = (n : X) → Contains closed n → IsClosed IsHeld IsChild n

-- The node is one of those that a certificate lists, or of those that are known to be closed.
abbrev pub IsCovered : {X : Type 0} → List X → List X → X → Type 0
IsCovered closed nodes n = Contains nodes n ⊎ Contains closed n

-- A certificate: the root is covered, each listed node is held, and each of its children is covered.
pub record Certifies {X : Type 0} (IsHeld : X → Type 0) (IsChild : X → X → Type 0) (closed nodes : List X) (root : X) : Type 0 where
  pub begins : IsCovered closed nodes root
  pub held : (n : X) → Contains nodes n → IsHeld n
  pub kids : (n child : X) → Contains nodes n → IsChild n child → IsCovered closed nodes child

-- The second has each node of the first.
abbrev pub IsAmong : {X : Type 0} → List X → List X → Type 0
IsAmong {X} ns ms = (n : X) → Contains ns n → Contains ms n

-- The second graph holds what the first holds, and what is held in the first has no more children in the second.
pub record Grows {X : Type 0} (IsHeld : X → Type 0) (IsChild : X → X → Type 0) (IsHeldLater : X → Type 0) (IsChildLater : X → X → Type 0) : Type 0 where
  pub held : (n : X) → IsHeld n → IsHeldLater n
  pub kids : (n child : X) → IsHeld n → IsChildLater n child → IsChild n child

-- The second function has the same children where the first has any.
abbrev pub IsWithin : {X : Type 0} → (X → Option (List X)) → (X → Option (List X)) → Type 0
IsWithin {X} children_of children_later = (n : X) (kids : List X) → children_of n ≡ Some kids → children_later n ≡ Some kids

-- A walk over the children that the function has leads from the first to the second.
abbrev pub ReachesIn : {X : Type 0} → (X → Option (List X)) → X → X → Type 0
ReachesIn children_of = Reaches (IsChildIn children_of)

-- Every node that is reached over the children that the function has is held.
abbrev pub IsClosedIn : {X : Type 0} → (X → Option (List X)) → X → Type 0
IsClosedIn children_of = IsClosed (IsHeldIn children_of) (IsChildIn children_of)

-- Each of these is closed.
abbrev pub AreClosedIn : {X : Type 0} → (X → Option (List X)) → List X → Type 0
AreClosedIn children_of = AreClosed (IsHeldIn children_of) (IsChildIn children_of)

-- The listed nodes show that the root is closed.
abbrev pub CertifiesIn : {X : Type 0} → (X → Option (List X)) → List X → List X → X → Type 0
CertifiesIn children_of = Certifies (IsHeldIn children_of) (IsChildIn children_of)
