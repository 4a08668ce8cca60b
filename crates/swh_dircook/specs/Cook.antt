-- How the cooking of a directory ends, and what it leaves in the yard.
use Rattle.std.specs.Prelude.{◌≡◌, ◌⊎◌, ℕ, Option, List}
use Rattle.swh_base.specs.declared.name.Name.{Name}
use Rattle.swh_model.specs.Archive.{Bodies}
use Rattle.swh_postorder.specs.Postorder.{IsPostorder, IsFirstMissing}
use Rattle.swh_pathwalk.specs.Tree.{Row, IsPathWalk}
use Rattle.swh_carried.specs.Uncarried.{IsUncarried, AreCarried}
use Rattle.swh_carried.specs.declared.fault.Why.{Why}
use Rattle.swh_carried.specs.declared.fault.CookFault.{CookFault}
use Rattle.swh_carried.specs.declared.fault.CookFault.TheVariants.{NotHeld, Uncarried, WriteFault, Memory}
use Rattle.swh_dircook.specs.Made.{Made, folder_made, Yarded, after_made, MakesSome}
use Rattle.swh_dircook.specs.Rules.{BreaksInFolder}

-- This is all that is made of the directory: its folder, what stands in that, and its listing.
pub record IsFolderOf (bodies : Bodies) (root : Name) (out : List ℕ) (made : List Made) : Type 0 where
  pub rows : List Row
  pub walk : IsPathWalk bodies root rows
  pub are : made ≡ folder_made bodies out rows

-- All of it was made.
pub record MakesFolder (bodies : Bodies) (root : Name) (out : List ℕ) (old new : Yarded) : Type 0 where
  pub made : List Made
  pub folder : IsFolderOf bodies root out made
  pub is : new ≡ after_made old made

-- A front of it was made.
pub record MakesFrontOfFolder (bodies : Bodies) (root : Name) (out : List ℕ) (old new : Yarded) : Type 0 where
  pub made : List Made
  pub folder : IsFolderOf bodies root out made
  pub front : MakesSome old made new

module _ (bodies : Bodies) (children_of : Name → Option (List Name)) (root : Name) where
  -- All that is reached is held, and a folder carries it.
  pub record IsCarriedFolder : Type 0 where
    pub order : List Name
    pub is_order : IsPostorder children_of root order
    pub carried : AreCarried children_of (BreaksInFolder bodies root) order

  -- All that is reached is held, and of it this is the first that a folder cannot carry.
  pub record IsUncarriedFolder (name : Name) (why : Why) : Type 0 where
    pub order : List Name
    pub is_order : IsPostorder children_of root order
    pub is : IsUncarried children_of (BreaksInFolder bodies root) order name why

  -- Why there is no order that a folder carries. It says nothing where memory ran out.
  abbrev pub ExplainsUncarried : CookFault → Type 0
  ExplainsUncarried (NotHeld missing) = IsFirstMissing children_of root missing
  ExplainsUncarried (Uncarried name why) = IsUncarriedFolder name why
  ExplainsUncarried WriteFault = ⊥
  ExplainsUncarried Memory = Unit {0}

  -- Why a folder is not made whole, and what stands then in the yard, where it is said that the yard is as it was. With the
  -- first two it is, whether it tells of itself or not; with the others a yard that tells has a front of the folder.
  abbrev pub ExplainsNoFolder : List ℕ → Type 0 → Type 0 → Yarded → Yarded → CookFault → Type 0
  ExplainsNoFolder out tells same old new (NotHeld missing) = IsFirstMissing children_of root missing × same
  ExplainsNoFolder out tells same old new (Uncarried name why) = IsUncarriedFolder name why × same
  ExplainsNoFolder out tells same old new WriteFault = IsCarriedFolder × (tells → MakesFrontOfFolder bodies root out old new)
  ExplainsNoFolder out tells same old new Memory = same ⊎ (IsCarriedFolder × (tells → MakesFrontOfFolder bodies root out old new))
