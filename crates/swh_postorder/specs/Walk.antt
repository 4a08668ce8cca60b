-- What each step of a walk does.
use Rattle.std.specs.Prelude.{◌≡◌, ◌⊎◌, ◌↔◌, ◌+◌, Option, Some, None, List, [], ◌∷◌, ◌++◌, Contains, length}
use Rattle.swh_base.specs.declared.name.Name.{Name}
use Rattle.swh_postorder.specs.Postorder.{IsFirstMissing}
use Rattle.swh_postorder.specs.declared.fault.OrderFault.{OrderFault}
use Rattle.swh_postorder.specs.declared.fault.OrderFault.TheVariants.{NotHeld, Memory}
use Rattle.swh_postorder.specs.declared.walk.Frame.{Frame}
use Rattle.swh_postorder.specs.declared.walk.Walk.{Walk}

-- The name was entered, and its frame stands on top.
pub record HasEntered (children_of : Name → Option (List Name)) (name : Name) (old new : Walk) : Type 0 where
  pub frame : Frame
  pub named : frame.name ≡ name
  pub kids : children_of name ≡ Some frame.kids.now
  pub frames : new.frames.items ≡ old.frames.items ++ frame ∷ []
  pub left : new.left.items ≡ old.left.items
  pub entered : (n : Name) → Contains new.entered n ↔ (Contains old.entered n ⊎ (name ≡ n))
  pub count : length new.entered ≡ length old.entered + 1

-- Why a name is not entered. It says nothing where memory ran out.
abbrev pub CannotEnter : (Name → Option (List Name)) → Name → OrderFault → Type 0
CannotEnter children_of name (NotHeld missing) = (missing ≡ name) × (children_of name ≡ None)
CannotEnter children_of name Memory = Unit {0}

-- The name is the first of these that was not entered, and stands before these.
pub record IsFirstFresh (entered names : List Name) (name : Name) (behind : List Name) : Type 0 where
  pub front : List Name
  pub cut : names ≡ front ++ name ∷ behind
  pub known : (n : Name) → Contains front n → Contains entered n
  pub fresh : Contains entered name → ⊥

-- The name on top was left, since all of its children were entered.
pub record HasLeft (top : Frame) (old new : Walk) : Type 0 where
  pub all : (n : Name) → Contains top.kids.now n → Contains old.entered n
  pub frames : new.frames.items ≡ old.frames.items
  pub left : new.left.items ≡ old.left.items ++ top.name ∷ []
  pub entered : new.entered ≡ old.entered

-- The first child of the name on top that was not entered is entered now.
pub record HasGoneIn (children_of : Name → Option (List Name)) (top : Frame) (old new : Walk) : Type 0 where
  pub name : Name
  pub rest : Frame
  pub inner : Frame
  pub first : IsFirstFresh old.entered top.kids.now name rest.kids.now
  pub rest_named : rest.name ≡ top.name
  pub named : inner.name ≡ name
  pub kids : children_of name ≡ Some inner.kids.now
  pub frames : new.frames.items ≡ old.frames.items ++ rest ∷ inner ∷ []
  pub left : new.left.items ≡ old.left.items
  pub entered : (n : Name) → Contains new.entered n ↔ (Contains old.entered n ⊎ (name ≡ n))
  pub count : length new.entered ≡ length old.entered + 1

-- What was done with the frame on top, which was taken off.
abbrev pub GoesOn : (Name → Option (List Name)) → Frame → Walk → Walk → Type 0
GoesOn children_of top old new = HasLeft top old new ⊎ HasGoneIn children_of top old new

-- The first child of the name on top that was not entered is not held.
pub record StopsIn (children_of : Name → Option (List Name)) (top : Frame) (entered : List Name) (missing : Name) : Type 0 where
  pub behind : List Name
  pub first : IsFirstFresh entered top.kids.now missing behind
  pub none : children_of missing ≡ None

-- Why a walk does not go on. It says nothing where memory ran out.
abbrev pub CannotGoOn : (Name → Option (List Name)) → Frame → Walk → OrderFault → Type 0
CannotGoOn children_of top old (NotHeld missing) = StopsIn children_of top old.entered missing
CannotGoOn children_of top old Memory = Unit {0}

-- Why there is no order. It says nothing where memory ran out.
abbrev pub ExplainsOrder : (Name → Option (List Name)) → Name → OrderFault → Type 0
ExplainsOrder children_of root (NotHeld missing) = IsFirstMissing children_of root missing
ExplainsOrder children_of root Memory = Unit {0}
