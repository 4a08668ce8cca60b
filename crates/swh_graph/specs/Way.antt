-- How far one has come on a way over components.
use Rattle.std.specs.Prelude.{◌≡◌, ℕ, ◌+◌, ◌<◌, ◌^◌, List, None, length}
use Rattle.swh_base.specs.declared.kind.Kind.TheVariants.{Directory}
use Rattle.swh_base.specs.declared.name.Name.{Name}
use Rattle.swh_base.specs.Directory.{DirectoryEntry}
use Rattle.swh_model.specs.Archive.{Bodies, body_of}
use Rattle.swh_graph.specs.Answer.{GraphAnswer, Found, Missing, Nowhere}
use Rattle.swh_graph.specs.Path.{AreComponents, Follows, IsEntryAt, IsPathGap, LeadsNowhere, IsPathEnd}
use Rattle.swh_graph.specs.Resolve.{AreComponentsOf, LeadsTo, IsWayGap, IsWayEnd}
use Rattle.swh_graph.specs.declared.fault.GraphFault.{GraphFault}
use Rattle.swh_graph.specs.declared.fault.GraphFault.TheVariants.{NotHeld, NoPath, Memory}

-- Why the component of this number leads to no entry from here. It says nothing where memory ran out.
abbrev pub StepFails : Bodies → Name → List ℕ → ℕ → GraphFault → Type 0
StepFails bodies place component number (NotHeld name) = (name ≡ place) × (place.kind ≡ Directory) × (body_of bodies place ≡ None)
StepFails bodies place component number (NoPath found) = (found ≡ number) × LeadsNowhere bodies place component
StepFails bodies place component number Memory = Unit {0}

-- The path leads from the root to the entry, by its component of this number as the last, which has a successor in a machine.
pub record Arrives (bodies : Bodies) (root : Name) (path : List ℕ) (entry : DirectoryEntry) (number : ℕ) : Type 0 where
  pub components : List (List ℕ)
  pub are : AreComponents path components
  pub is : IsEntryAt bodies root components entry
  pub number_is : number + 1 ≡ length components
  pub small : number < 2 ^ 63

-- The path, behind its slash, leads from the root to this name, by so many components.
pub record Ends (bodies : Bodies) (root : Name) (path : List ℕ) (end : Name) (number : ℕ) : Type 0 where
  pub components : List (List ℕ)
  pub are : AreComponentsOf path components
  pub follows : Follows bodies root components end
  pub number_is : number ≡ length components

-- Why a path, behind its slash, leads nowhere from a root. It says nothing where memory ran out.
abbrev pub EndFails : Bodies → Name → List ℕ → GraphFault → Type 0
EndFails bodies root path (NotHeld name) = (components : List (List ℕ)) × (AreComponentsOf path components × IsPathGap bodies root components name)
EndFails bodies root path (NoPath number) = (components : List (List ℕ)) × (AreComponentsOf path components × IsPathEnd bodies root components number)
EndFails bodies root path Memory = Unit {0}

-- what is answered to who asks whether a path leads from the anchor's root to this object
abbrev pub WayAnswers : Bodies → Name → List ℕ → Name → GraphAnswer Name → Type 0
WayAnswers bodies anchor path object (Found name) =
    (components : List (List ℕ)) × (AreComponentsOf path components × LeadsTo bodies anchor components object × (name ≡ object))
WayAnswers bodies anchor path object (Missing name) =
    (components : List (List ℕ)) × (AreComponentsOf path components × IsWayGap bodies anchor components name)
WayAnswers bodies anchor path object (Nowhere number) =
    (components : List (List ℕ)) × (AreComponentsOf path components × IsWayEnd bodies anchor components object number)
