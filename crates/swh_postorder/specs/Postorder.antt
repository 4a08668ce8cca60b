-- The order in which a walk over a graph leaves its names, depth first: each is entered once, and left after its children.
-- A graph is the function that has the children of each held name, in their order.
use Rattle.std.specs.Prelude.{◌≡◌, ◌⊎◌, Option, Some, None, List, [], ◌∷◌, ◌++◌, Contains}
use Rattle.swh_base.specs.declared.name.Name.{Name}
use Rattle.swh_base.specs.Reach.{ReachesIn}

-- What a walk does over some names, one after another: it passes one that was entered before; or it enters one, walks over
-- its children, and leaves it.
pub data Trip : Type 0 where
  Over : Trip
  Passes : Name → Trip → Trip
  Enters : Name → Trip → Trip → Trip

-- the names that are left on a trip, in their order
abbrev pub left_in : Trip → List Name
left_in Over = []
left_in (Passes n rest) = left_in rest
left_in (Enters n inner rest) = left_in inner ++ n ∷ left_in rest

-- The name was entered: the walk is among its children, or those of one that it led to, or has left it.
abbrev pub IsEntered : List Name → List Name → Name → Type 0
IsEntered around left n = Contains around n ⊎ Contains left n

-- Where a walk ends before its end: at the name after a trip, or inside that name's children.
pub data Stop : Type 0 where
  Here : Trip → Stop
  Inside : Trip → Name → Stop → Stop

module _ (children_of : Name → Option (List Name)) where
  -- This is the trip over the names, where those around were entered and not left, and these were left.
  abbrev pub IsTrip : List Name → List Name → List Name → Trip → Type 0
  IsTrip around left names Over = names ≡ []
  IsTrip around left names (Passes n rest) = (more : List Name) × (names ≡ n ∷ more) × IsEntered around left n × IsTrip around left more rest
  IsTrip around left names (Enters n inner rest) =
      (more : List Name) × (kids : List Name) × (names ≡ n ∷ more) × (IsEntered around left n → ⊥) × (children_of n ≡ Some kids)
      × IsTrip (n ∷ around) left kids inner × IsTrip around (left ++ (left_in inner ++ n ∷ [])) more rest

  -- The walk over the names makes this trip over those in front of this one, and then enters it.
  pub record ComesTo (around left names : List Name) (trip : Trip) (n : Name) : Type 0 where
    pub front : List Name
    pub back : List Name
    pub cut : names ≡ front ++ n ∷ back
    pub before : IsTrip around left front trip
    pub fresh : IsEntered around (left ++ left_in trip) n → ⊥

  -- The walk over the names stops here, as it enters one that is not held.
  abbrev pub StopsAt : List Name → List Name → List Name → Stop → Name → Type 0
  StopsAt around left names (Here trip) missing = ComesTo around left names trip missing × (children_of missing ≡ None)
  StopsAt around left names (Inside trip n stop) missing =
      (kids : List Name) × ComesTo around left names trip n × (children_of n ≡ Some kids) × StopsAt (n ∷ around) (left ++ left_in trip) kids stop missing

  -- This is the order in which a walk from the root leaves what it enters, all of which is held.
  pub record IsPostorder (root : Name) (order : List Name) : Type 0 where
    pub trip : Trip
    pub walk : IsTrip [] [] (root ∷ []) trip
    pub is : order ≡ left_in trip

  -- Of the names that a walk from the root enters, this is the first that is not held.
  pub record IsFirstMissing (root missing : Name) : Type 0 where
    pub stop : Stop
    pub walk : StopsAt [] [] (root ∷ []) stop missing

-- The first name stands before the second.
pub record Precedes (order : List Name) (first second : Name) : Type 0 where
  pub before : List Name
  pub behind : List Name
  pub cut : order ≡ before ++ second ∷ behind
  pub there : Contains before first

-- The child stands before its parent, or a walk leads back from it to the parent.
abbrev pub PrecedesOrReturns : (Name → Option (List Name)) → List Name → Name → Name → Type 0
PrecedesOrReturns children_of order child parent = Precedes order child parent ⊎ ReachesIn children_of child parent
