-- What contracts see of an input's parts.
use Rattle.std.specs.Prelude.{◌≡◌, ◌≤◌, ◌⊎◌, ℕ, Option, Some, None, option_map, List, IfSome}
use Rattle.swh_base.specs.Text.{IsRef}
use Rattle.swh_outside.specs.Faults.{Rose}
use Rattle.swh_outside.specs.Folder.{Tree}
use Rattle.swh_outside.specs.Views.{Sources}
use Rattle.swh_outside.specs.declared.fault.Opened.{Opened}
use Rattle.swh_outside.specs.declared.fault.Opened.TheVariants.{Found, NotFound, Failed, Memory}
use Rattle.swh_inputs.specs.Input.{InputText}
use Rattle.swh_inputs.specs.Input.InputText.{StreamText, FolderText, BatchText}
use Rattle.swh_inputs.specs.declared.input.Input.{Input}
use Rattle.swh_inputs.specs.declared.input.Input.TheVariants.{Fast, Dir, Batch}

-- folders of a type: whether they tell what they hold, what each holds, how often each has failed, and where it was opened
pub record Folders (F : Type 0) : Type 1 where
  pub tells : Type 0
  pub holds : F → Tree
  pub faults : F → ℕ
  pub path : F → List ℕ

-- the sources and the folders that inputs are made of
pub record Parts (S F : Type 0) : Type 1 where
  pub sources : Sources S
  pub folders : Folders F

-- folders seen by these
abbrev pub folders : {F : Type 0} → Type 0 → (F → Tree) → (F → ℕ) → (F → List ℕ) → Folders F
folders tells holds faults path = record { tells = tells; holds = holds; faults = faults; path = path }

-- parts seen by these
abbrev pub parts : {S F : Type 0} → Sources S → Folders F → Parts S F
parts of_sources of_folders = record { sources = of_sources; folders = of_folders }

-- what a part that was found has
abbrev pub given : {X Y : Type 0} → (X → Y) → Opened X → Option Y
given f (Found x) = Some (f x)
given f NotFound = None
given f Failed = None
given f Memory = None

-- what a listing has, where it is not wanting
abbrev pub listing_given : {X Y : Type 0} → (X → Y) → Option (Opened X) → Option (Option Y)
listing_given f None = Some None
listing_given f (Some part) = option_map Some (given f part)

-- what an input of two parts holds, where none of them is wanting
abbrev pub both_given : {X Y Z : Type 0} → (X → Y → Z) → Option X → Option Y → Option Z
both_given f (Some x) (Some y) = Some (f x y)
both_given f (Some x) None = None
both_given f None y = None

-- The head that is named for a stream is a ref.
abbrev pub HasGoodHead : {S F : Type 0} → Input S F → Type 0
HasGoodHead (Fast stream head) = IfSome head IsRef
HasGoodHead (Dir folder modes) = Unit {0}
HasGoodHead (Batch objects refs) = Unit {0}

-- The count of faults rose.
abbrev pub RoseOf : {X : Type 0} → (X → ℕ) → X → X → Type 0
RoseOf faults x now = Rose (faults x) (faults now)

-- The count of faults is as it was.
abbrev pub IsQuietOf : {X : Type 0} → (X → ℕ) → X → X → Type 0
IsQuietOf faults x now = faults now ≡ faults x

-- What holds of two parts that were found, and of no others.
abbrev pub IfBothFound : {X : Type 0} → (X → X → Type 0) → Opened X → Opened X → Type 0
IfBothFound P (Found x) (Found y) = P x y
IfBothFound P _ _ = ⊥

-- The part is as it was opened, and is the same where it was found.
abbrev pub IsSamePart : {X : Type 0} → (X → X → Type 0) → Opened X → Opened X → Type 0
IsSamePart IsSame (Found x) (Found now) = IsSame x now
IsSamePart IsSame NotFound NotFound = Unit {0}
IsSamePart IsSame Failed Failed = Unit {0}
IsSamePart IsSame Memory Memory = Unit {0}
IsSamePart IsSame _ _ = ⊥

-- The same of a listing, where one is named.
abbrev pub IsSameListing : {X : Type 0} → (X → X → Type 0) → Option (Opened X) → Option (Opened X) → Type 0
IsSameListing IsSame (Some x) (Some now) = IsSamePart IsSame x now
IsSameListing IsSame None None = Unit {0}
IsSameListing IsSame _ _ = ⊥

-- A source's path is the same, and its count of faults did not fall.
abbrev pub IsSameSource : {S : Type 0} → Sources S → S → S → Type 0
IsSameSource p s now = (p.path now ≡ p.path s) × (p.faults s ≤ p.faults now)

-- A folder's path is the same, its count of faults did not fall, and what it holds, where it tells that, is the same.
pub record IsSameFolder {F : Type 0} (p : Folders F) (f now : F) : Type 0 where
  pub path : p.path now ≡ p.path f
  pub later : p.faults f ≤ p.faults now
  pub holds : p.tells → p.holds now ≡ p.holds f

module _ {S F : Type 0} (p : Parts S F) where
  -- All parts tell what they hold.
  abbrev pub TellAll : Input S F → Type 0
  TellAll (Fast stream head) = p.sources.tells
  TellAll (Dir folder None) = p.folders.tells
  TellAll (Dir folder (Some modes)) = p.folders.tells × p.sources.tells
  TellAll (Batch objects refs) = p.sources.tells

  -- what the input holds, where all of its parts were found
  abbrev pub text_of : Input S F → Option InputText
  text_of (Fast stream head) = option_map (StreamText head) (given p.sources.left stream)
  text_of (Dir folder modes) = both_given FolderText (given p.folders.holds folder) (listing_given p.sources.left modes)
  text_of (Batch objects refs) = both_given BatchText (given p.sources.left objects) (given p.sources.left refs)

  -- Where all parts of the input were found and tell what they hold, that has P.
  abbrev pub IfTold : Input S F → (InputText → Type 0) → Type 0
  IfTold i P = TellAll i → IfSome (text_of i) P

  -- A count of faults of a part rose.
  abbrev pub HasFailed : Input S F → Input S F → Type 0
  HasFailed (Fast stream head) (Fast now other) = IfBothFound (RoseOf p.sources.faults) stream now
  HasFailed (Dir folder None) (Dir now None) = IfBothFound (RoseOf p.folders.faults) folder now
  HasFailed (Dir folder (Some modes)) (Dir now (Some listing)) = IfBothFound (RoseOf p.folders.faults) folder now ⊎ IfBothFound (RoseOf p.sources.faults) modes listing
  HasFailed (Batch objects refs) (Batch now others) = IfBothFound (RoseOf p.sources.faults) objects now ⊎ IfBothFound (RoseOf p.sources.faults) refs others
  HasFailed _ _ = ⊥

  -- No part of the input failed: each count of faults is as it was.
  abbrev pub IsQuiet : Input S F → Input S F → Type 0
  IsQuiet (Fast stream head) (Fast now other) = IsSamePart (IsQuietOf p.sources.faults) stream now
  IsQuiet (Dir folder modes) (Dir now listing) = IsSamePart (IsQuietOf p.folders.faults) folder now × IsSameListing (IsQuietOf p.sources.faults) modes listing
  IsQuiet (Batch objects refs) (Batch now others) = IsSamePart (IsQuietOf p.sources.faults) objects now × IsSamePart (IsQuietOf p.sources.faults) refs others
  IsQuiet _ _ = ⊥

  -- The input is as it was opened, with the same parts.
  abbrev pub IsSameInput : Input S F → Input S F → Type 0
  IsSameInput (Fast stream head) (Fast now other) = IsSamePart (IsSameSource p.sources) stream now × (other ≡ head)
  IsSameInput (Dir folder modes) (Dir now listing) = IsSamePart (IsSameFolder p.folders) folder now × IsSameListing (IsSameSource p.sources) modes listing
  IsSameInput (Batch objects refs) (Batch now others) = IsSamePart (IsSameSource p.sources) objects now × IsSamePart (IsSameSource p.sources) refs others
  IsSameInput _ _ = ⊥
