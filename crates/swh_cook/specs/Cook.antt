-- A name cooked into a yard: a directory as a folder, with its listing beside it, and each other name as a file of its text.
use Rattle.std.specs.Prelude.{◌≡◌, ◌⊎◌, ℕ, Option, List, [], ◌∷◌}
use Rattle.swh_base.specs.declared.kind.Kind.{Kind}
use Rattle.swh_base.specs.declared.kind.Kind.TheVariants.{Content, Directory, Revision, Release, Snapshot}
use Rattle.swh_base.specs.declared.name.Name.{Name}
use Rattle.swh_model.specs.Archive.{AreAllOfBytes, Bodies}
use Rattle.swh_postorder.specs.Postorder.{IsFirstMissing}
use Rattle.swh_carried.specs.declared.fault.Why.{Why}
use Rattle.swh_carried.specs.declared.fault.CookFault.{CookFault}
use Rattle.swh_carried.specs.declared.fault.CookFault.TheVariants.{NotHeld, Uncarried, WriteFault, Memory}
use Rattle.swh_fastcook.specs.Cook.{IsHeadOf, IsCarriedStream, IsUncarriedStream, IsCookedText}
use Rattle.swh_dircook.specs.Cook.{IsFolderOf, IsCarriedFolder, IsUncarriedFolder}
use Rattle.swh_dircook.specs.Made.{Made, FileMade, Yarded, after_made, MakesSome}

module _ (bodies : Bodies) (children_of : Name → Option (List Name)) (root : Name) where
  -- This is the one file of the root's text.
  pub record IsFileOf (out : List ℕ) (made : List Made) : Type 0 where
    pub text : List ℕ
    pub is : IsCookedText bodies children_of root text
    pub are : made ≡ FileMade out text ∷ []

  -- what a root of this kind becomes at a path
  abbrev pub AreMadeOf : Kind → List ℕ → List Made → Type 0
  AreMadeOf Content out made = IsFileOf out made
  AreMadeOf Directory out made = IsFolderOf bodies root out made
  AreMadeOf Revision out made = IsFileOf out made
  AreMadeOf Release out made = IsFileOf out made
  AreMadeOf Snapshot out made = IsFileOf out made

  -- All that is reached is held, and the form of roots of this kind carries it: folders carry directories, and streams all
  -- others.
  abbrev pub IsCarriedOf : Kind → Type 0
  IsCarriedOf Content = IsCarriedStream bodies children_of root
  IsCarriedOf Directory = IsCarriedFolder bodies children_of root
  IsCarriedOf Revision = IsCarriedStream bodies children_of root
  IsCarriedOf Release = IsCarriedStream bodies children_of root
  IsCarriedOf Snapshot = IsCarriedStream bodies children_of root

  -- All that is reached is held, and of it this is the first that the form of roots of this kind cannot carry.
  abbrev pub IsUncarriedOf : Kind → Name → Why → Type 0
  IsUncarriedOf Content name why = IsUncarriedStream bodies children_of root name why
  IsUncarriedOf Directory name why = IsUncarriedFolder bodies children_of root name why
  IsUncarriedOf Revision name why = IsUncarriedStream bodies children_of root name why
  IsUncarriedOf Release name why = IsUncarriedStream bodies children_of root name why
  IsUncarriedOf Snapshot name why = IsUncarriedStream bodies children_of root name why

  -- The same, by the kind of the root itself.
  abbrev pub AreMade : List ℕ → List Made → Type 0
  AreMade out made = AreMadeOf root.kind out made

  -- All that is reached from the root is held, and the form of its kind carries it.
  abbrev pub IsCarried : Type 0
  IsCarried = IsCarriedOf root.kind

  -- All that is reached from the root is held, and of it this is the first that the form of its kind cannot carry.
  abbrev pub IsUncarried : Name → Why → Type 0
  IsUncarried name why = IsUncarriedOf root.kind name why

  -- All of it was made.
  pub record MakesAll (out : List ℕ) (old new : Yarded) : Type 0 where
    pub made : List Made
    pub are : AreMade out made
    pub is : new ≡ after_made old made

  -- A front of it was made.
  pub record MakesFront (out : List ℕ) (old new : Yarded) : Type 0 where
    pub made : List Made
    pub are : AreMade out made
    pub front : MakesSome old made new

  -- The root was cooked, and this is its head: where the alias `HEAD` of a snapshot leads. What was made is told by a yard
  -- that tells. The bodies are made of bytes, as all is that lies in memory.
  pub record IsCooked (out : List ℕ) (tells : Type 0) (old new : Yarded) (head : Option (List ℕ)) : Type 0 where
    pub carried : IsCarried
    pub of_bytes : AreAllOfBytes bodies
    pub is_head : IsHeadOf bodies root head
    pub made : tells → MakesAll out old new

  -- The root is carried, and a front of what it becomes was made.
  pub record IsBrokenOff (out : List ℕ) (tells : Type 0) (old new : Yarded) : Type 0 where
    pub carried : IsCarried
    pub made : tells → MakesFront out old new

  -- Why it was not cooked. Of the first two the yard is as it was, which `same` says, whether it tells or not. Want of memory
  -- comes before all is known to be carried, or behind a front of what the root becomes.
  abbrev pub ExplainsUncooked : List ℕ → Type 0 → Type 0 → Yarded → Yarded → CookFault → Type 0
  ExplainsUncooked out tells same old new (NotHeld missing) = IsFirstMissing children_of root missing × same
  ExplainsUncooked out tells same old new (Uncarried name why) = IsUncarried name why × same
  ExplainsUncooked out tells same old new WriteFault = IsBrokenOff out tells old new
  ExplainsUncooked out tells same old new Memory = same ⊎ IsBrokenOff out tells old new
